-- A plant that plays a record, and the apps of the record in a cycle.
use Rattle.std.specs.Prelude.{◌≡◌, ℕ, false, List, length, take, Some, slice_get}
use Rattle.io_buffers.specs.Given.{Given}
use Rattle.irt_base.specs.declared.plants.App.{App}
use Rattle.iso_plant.specs.Replay.{PlantView, takes_of}
use Rattle.iso_rules.specs.Lockstep.{AppLog}
use Rattle.iso_rules.specs.Station.{input_count}
use Rattle.iso_run.specs.Ends.{EndView}
use Rattle.plan_rules.specs.Way.{Setup}

-- an app before a cycle in which this is taken
abbrev pub fresh_end : Given → List ℕ → EndView
fresh_end offer image = record { offer = offer; image = image; is_taken = false; is_shown = false }

-- The end of app n is that of cycle k: what is taken is what its log has, and there is room for its device's image.
pub record IsEndOf (setup : Setup) (k : ℕ) (logs : List AppLog) (n : ℕ) (e : EndView) : Type 0 where
  pub unused : e ≡ fresh_end e.offer e.image
  pub offer : (log : AppLog) → slice_get logs n ≡ Some log → slice_get log.takes k ≡ Some e.offer
  pub image : (app : App) → slice_get setup.plant.apps n ≡ Some app → length e.image ≡ input_count setup app.device.0

-- so are those of the first apps
pub record AreEndsOf (setup : Setup) (k : ℕ) (logs : List AppLog) (apps : ℕ) (ends : List EndView) : Type 0 where
  pub count : length ends ≡ apps
  pub each : (n : ℕ) (e : EndView) → slice_get ends n ≡ Some e → IsEndOf setup k logs n e

-- In the cycles that are done was taken what the logs have.
abbrev pub HasTaken : PlantView → List AppLog → Type 0
HasTaken v logs = (n : ℕ) (log : AppLog) → slice_get logs n ≡ Some log → takes_of n v ≡ take v.done log.takes
