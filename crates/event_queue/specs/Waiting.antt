-- What a clause sees of a queue of events.
use Rattle.std.specs.Prelude.{ℕ, List, ◌≤ℤ◌}
use Rattle.std.specs.declared.cmp.Reverse.{Reverse}
use Rattle.cycle_events.specs.declared.events.Event.{Event}

-- the events that wait, in no particular order, and for how many more there is room
pub record Waiting : Type 0 where
  pub events : List Event
  pub room : ℕ

abbrev pub event_in : Reverse Event → Event
event_in r = r.0

-- an event does not lie before another in time
abbrev pub IsNotBefore : Event → Event → Type 0
IsNotBefore first e = first.at ≤ℤ e.at
