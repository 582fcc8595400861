-- Rules of a device, port and frame.
use Rattle.std.specs.Prelude.{ℕ}
use Rattle.plan_rules.specs.declared.place.Place.{Place}

-- such a rule at a place
abbrev pub AtFrame : (ℕ → ℕ → ℕ → Type 0) → Place → Type 0
AtFrame Holds at = Holds at.device.0 at.port at.frame
