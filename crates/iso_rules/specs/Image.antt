-- What a station receives: the words that providers load, the cycle that a consumer's words are of, and its image.
use Rattle.std.specs.Prelude.{◌≡◌, ℕ, ◌==◌, List, [], Option, Some, IsSome, ◌≤◌, position, replicate}
use Rattle.std.specs.List.{AllZip, concat}
use Rattle.std.specs.Option.{option_map_or}
use Rattle.irt_base.specs.declared.blocks.Entry.{Entry}
use Rattle.irt_base.specs.declared.plants.App.{App}
use Rattle.irt_base.specs.declared.plants.Demand.{Demand}
use Rattle.irt_base.specs.declared.plants.Plant.{Plant}
use Rattle.plan_rules.specs.Once.{HasToReach}
use Rattle.plan_rules.specs.Tree.{demand_of}
use Rattle.plan_rules.specs.Way.{Setup}
use Rattle.plan_rules.specs.World.{WorldRow}
use Rattle.iso_rules.specs.Hold.{IsHeldFrom, IsHeldPart}
use Rattle.iso_rules.specs.Station.{entries_at, provided_of, consumed_of, output_count, part_of}

-- the number of the app on a device. Apps count from 0.
abbrev pub app_on : Plant → ℕ → Option ℕ
app_on plant device = position (λ (a : App). a.device.0 == device) plant.apps

-- The words that a device sends in cycle k: those taken from its app in k, and zeros where it has none. Here and below
-- `taken` has the words taken, by app and cycle.
abbrev pub sent_words : Setup → (ℕ → ℕ → List ℕ) → ℕ → ℕ → List ℕ
sent_words setup taken k device =
    option_map_or (λ app. taken app k) (app_on setup.plant device) (replicate (output_count setup device) 0)

-- the words that are loaded for a frame in cycle k: its part of what its provider sends
abbrev pub loaded_words : Setup → (ℕ → ℕ → List ℕ) → ℕ → ℕ → List ℕ
loaded_words setup taken k frame =
    option_map_or
    (λ (d : Demand). part_of (provided_of (entries_at setup d.provider.0)) frame (sent_words setup taken k d.provider.0))
    (demand_of setup.plant frame)
    []

-- The planned cycle of a frame at a consumer after cycle k: the last one up to k in which the frame is due and its route
-- to the device is live, as long as the frame was due in fewer than HOLD_CYCLES cycles since.
abbrev pub IsPlannedCycle : Setup → List WorldRow → ℕ → Entry → ℕ → ℕ → Type 0
IsPlannedCycle setup world device e k c = IsHeldFrom (λ cycle. HasToReach setup world cycle device e.frame.0) e k c

-- the part of a frame in the image of a consumer after cycle k: what was loaded in its planned cycle, else zeros
abbrev pub IsPart : Setup → List WorldRow → (ℕ → ℕ → List ℕ) → ℕ → ℕ → Entry → List ℕ → Type 0
IsPart setup world taken device k e part =
    IsHeldPart (λ cycle. HasToReach setup world cycle device e.frame.0) (λ cycle. loaded_words setup taken cycle e.frame.0) e k part

-- The image of a device after cycle k: the parts of the frames that it consumes, one behind the other, by ascending
-- FrameID.
pub record IsImage (setup : Setup) (world : List WorldRow) (taken : ℕ → ℕ → List ℕ) (device k : ℕ) (image : List ℕ) : Type 0 where
  pub parts : List (List ℕ)
  pub each : AllZip (IsPart setup world taken device k) (consumed_of (entries_at setup device)) parts
  pub joined : image ≡ concat parts

-- What came of a frame in the cycles up to k is what was loaded, in the cycles in which it has to reach the device.
pub record AreArrivals (setup : Setup) (world : List WorldRow) (taken : ℕ → ℕ → List ℕ) (device k : ℕ) (e : Entry)
    (came : ℕ → Option (List ℕ)) : Type 0 where
  pub each : (c : ℕ) → c ≤ k → HasToReach setup world c device e.frame.0 → came c ≡ Some (loaded_words setup taken c e.frame.0)
  pub only : (c : ℕ) → c ≤ k → IsSome (came c) → HasToReach setup world c device e.frame.0
