-- Demands by FrameID.
use Rattle.std.specs.Prelude.{◌≡◌, ℕ, List, Option, None, option_and_then, slice_get, slice_index_or}
use Rattle.irt_base.specs.declared.plants.Plant.{Plant}
use Rattle.plan_rules.specs.Tree.{demand_of}

-- the number at a FrameID names the demand that has it
abbrev pub AreNumbers : Plant → List (Option ℕ) → Type 0
AreNumbers plant numbers = (frame : ℕ) → option_and_then (slice_get plant.demands) (slice_index_or numbers frame None) ≡ demand_of plant frame
