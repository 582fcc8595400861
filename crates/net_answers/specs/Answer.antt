-- What an answer to an arrival brings about, in true time.
use Rattle.std.specs.Prelude.{ℕ, List, [], ⊤, ℤ, ◌+ℤ◌}
use Rattle.irt_switch.specs.declared.action.Action.{Action}
use Rattle.irt_switch.specs.declared.action.Action.TheVariants.{Forward, Dropped}
use Rattle.cycle_events.specs.declared.events.Event.{Event}
use Rattle.switch_events.specs.Answered.{starts_of}
use Rattle.net_starts.specs.Released.{IsSmallTime}

-- a device's cycle begins at a true time, from which the answer's time counts
abbrev pub answer_starts : ℤ → ℕ → ℕ → Action → List Event
answer_starts begin device frame (Forward at ports here) = starts_of (begin +ℤ at) device frame ports
answer_starts begin device frame (Dropped cause) = []

-- the answer's time takes at most 60 bits
abbrev pub IsSmallAnswer : Action → Type 0
IsSmallAnswer (Forward at ports here) = IsSmallTime 60 at
IsSmallAnswer (Dropped cause) = ⊤
