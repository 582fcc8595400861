-- Parcels on the way over links, in room that was made beforehand.
use Rattle.std.specs.Prelude.{ℕ, List}
use Rattle.parcel_rules.specs.declared.handed.Handed.{Handed}

pub record FlightState : Type 0 where
  -- in the order in which they are handed over
  pub handed : List Handed
  -- how many may be on the way at once
  pub room : ℕ
