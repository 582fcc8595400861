-- The starts of what a device releases, in true time.
use Rattle.std.specs.Prelude.{ℕ, ◌^◌, List, ℤ, pos, ◌+ℤ◌, ◌≤ℤ◌}
use Rattle.std.specs.List.{flat_map}
use Rattle.irt_switch.specs.declared.action.Outgoing.{Outgoing}
use Rattle.cycle_events.specs.declared.events.Event.{Event}
use Rattle.switch_events.specs.Answered.{starts_of}

-- a device's cycle begins at a true time, from which its local times count
abbrev pub starts_from : ℤ → ℕ → List Outgoing → List Event
starts_from begin device list = flat_map (λ (o : Outgoing). starts_of (begin +ℤ o.at) device o.frame.0 o.ports) list

-- a time of at most so many bits of ns, either way
pub record IsSmallTime (bits : ℕ) (time : ℤ) : Type 0 where
  pub low : pos 0 ≤ℤ (time +ℤ pos (2 ^ bits))
  pub high : time ≤ℤ pos (2 ^ bits)
