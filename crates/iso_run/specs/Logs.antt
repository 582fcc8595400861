-- What a run leaves of each app.
use Rattle.std.specs.Prelude.{◌≡◌, ℕ, List, length, map, zip, Some, slice_get}
use Rattle.iso_plant.specs.History.{AppCycles}
use Rattle.iso_plant.specs.Replay.{PlantView, IsReplay, images_of, takes_of}
use Rattle.iso_rules.specs.Lockstep.{AppLog}
use Rattle.record_text.specs.declared.record.Record.{Record}
use Rattle.iso_run.specs.declared.apps.LockstepApp.{LockstepApp}

-- what was taken from an app and published to it, with its turns
abbrev pub log_from : {A : Type 0} → LockstepApp A → AppCycles → AppLog
log_from a history = record { takes = history.takes; images = history.images; turns = a.turns }

abbrev pub logs_from : {A : Type 0} → List (LockstepApp A) → List AppCycles → List AppLog
logs_from apps histories = map (λ p. log_from p.0 p.1) (zip apps histories)

-- the plant's history, by app
pub record AreHistories (v : PlantView) (histories : List AppCycles) : Type 0 where
  pub count : length histories ≡ length v.plant.apps
  pub apps : (n : ℕ) (a : AppCycles) → slice_get histories n ≡ Some a → (a.takes ≡ takes_of n v) × (a.images ≡ images_of n v)

-- The record of so many cycles has what the plant tells of its apps, with their turns, and its journal.
pub record IsLeft {A : Type 0} (v : PlantView) (apps : List (LockstepApp A)) (done : ℕ) (r : Record) : Type 0 where
  pub cycles : r.cycles ≡ done
  pub histories : List AppCycles
  pub told : AreHistories v histories
  pub logs : r.apps ≡ logs_from apps histories
  pub journal : r.journal ≡ v.rows
  pub replay : IsReplay v
