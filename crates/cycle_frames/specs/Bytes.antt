-- The bytes of the frames of a cycle.
use Rattle.std.specs.Prelude.{◌≡◌, ℕ, List, length, Some, Ok, slice_get}
use Rattle.irt_base.specs.declared.plants.Demand.{Demand}
use Rattle.plan_rules.specs.Once.{IsDueFrame}
use Rattle.plan_rules.specs.Way.{Setup}
use Rattle.rtc3_frame.specs.Frame.{Fields, fields_at}

-- The bytes are a frame of a demand: of its FrameID and its length.
pub record IsFrameOf (demand : Demand) (bytes : List ℕ) : Type 0 where
  pub fields : Fields
  pub told : fields_at bytes ≡ Ok fields
  pub frame : fields.frame ≡ demand.frame.0
  pub count : length fields.csdu ≡ demand.length

-- By the number of its demand, the bytes of each frame that is due in cycle k.
abbrev pub AreFramesOf : Setup → ℕ → List (List ℕ) → Type 0
AreFramesOf setup k frames =
    (number : ℕ) (demand : Demand) → slice_get setup.plant.demands number ≡ Some demand → IsDueFrame setup k demand.frame.0 demand →
    (bytes : List ℕ) × (slice_get frames number ≡ Some bytes) × IsFrameOf demand bytes
