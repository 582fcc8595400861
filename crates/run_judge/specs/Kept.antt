-- What is asked of a record beside its images and its journal.
use Rattle.std.specs.Prelude.{◌≡◌, ℕ, List, Some, slice_get}
use Rattle.irt_base.specs.declared.plants.App.{App}
use Rattle.iso_rules.specs.Legal.{HasEachCycle, HasWholeInputs, HasWholeOutputs, HasWindows, KeepsUp, NeverFallsBack}
use Rattle.iso_rules.specs.Legal.{Replies}
use Rattle.iso_rules.specs.Lockstep.{AppLog}
use Rattle.plan_rules.specs.Way.{Setup}

-- all that is said of the numbers in an app's log
pub record HasLegalNumbers (cycles : ℕ) (log : AppLog) : Type 0 where
  pub each : HasEachCycle cycles log
  pub numbers : NeverFallsBack log
  pub pace : KeepsUp cycles log
  pub windows : HasWindows cycles log

-- and of the words of its takes and inputs
pub record HasWholeWords (setup : Setup) (device : ℕ) (log : AppLog) : Type 0 where
  pub outputs : HasWholeOutputs setup device log
  pub inputs : HasWholeInputs setup device log

-- all that is said of one app, but for its images and its replies
pub record IsLegalButReplies (setup : Setup) (cycles device : ℕ) (log : AppLog) : Type 0 where
  pub numbers : HasLegalNumbers cycles log
  pub words : HasWholeWords setup device log

-- all that is said of one app, but for its images
pub record IsLegalButImages {A : Type 0} (reply : A → List ℕ → ℕ → List ℕ) (next : A → List ℕ → ℕ → A) (setup : Setup)
    (cycles device : ℕ) (state : A) (log : AppLog) : Type 0 where
  pub kept : IsLegalButReplies setup cycles device log
  pub replies : Replies reply next setup device state log.turns

-- so of each app of the plant
abbrev pub AreLegalButImages : {A : Type 0} → (A → List ℕ → ℕ → List ℕ) → (A → List ℕ → ℕ → A) → Setup → ℕ →
    List A → List AppLog → Type 0
AreLegalButImages {A} reply next setup cycles firsts logs =
    (n : ℕ) (app : App) (state : A) (log : AppLog) → slice_get setup.plant.apps n ≡ Some app →
    slice_get firsts n ≡ Some state → slice_get logs n ≡ Some log →
    IsLegalButImages reply next setup cycles app.device.0 state log
