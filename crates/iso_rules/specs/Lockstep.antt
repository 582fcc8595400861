-- The lockstep run: cycle by cycle, each app's output is taken, frames are sent, each app's image is published, and then
-- each app makes one turn.
use Rattle.std.specs.Prelude.{◌≡◌, ℕ, suc, List, [], map, length, zip, All, option_map, option_and_then, slice_get, unwrap_or}
use Rattle.io_buffers.specs.Given.{Given}
use Rattle.irt_base.specs.declared.plants.Plant.{Plant}
use Rattle.iso_rules.specs.Image.{IsImage}
use Rattle.iso_rules.specs.Turns.{AppRun, new_run, after_take, after_image, after_turn}
use Rattle.iso_rules.specs.declared.turn.Turn.{Turn}
use Rattle.plan_rules.specs.Way.{Setup}
use Rattle.plan_rules.specs.World.{WorldRow}

-- the words that were taken from an app in a cycle; the takes stand by app and cycle
abbrev pub words_taken : List (List Given) → ℕ → ℕ → List ℕ
words_taken takes app k =
    unwrap_or (option_map (λ (g : Given). g.words) (option_and_then (λ (own : List Given). slice_get own k) (slice_get takes app))) []

abbrev pub words_of_runs : {A : Type 0} → List (AppRun A) → ℕ → ℕ → List ℕ
words_of_runs runs = words_taken (map (λ run. run.takes) runs)

-- the apps before the first cycle, in the order of the plant's
abbrev pub new_runs : {A : Type 0} → Plant → List A → List (AppRun A)
new_runs plant states = map (λ p. new_run p.0.device.0 p.1) (zip plant.apps states)

-- what cycle k takes of all apps
abbrev pub after_takes : {A : Type 0} → Setup → ℕ → List (AppRun A) → List (AppRun A)
after_takes setup k runs = map (after_take setup k) runs

-- the apps after cycle k and the turns that follow it, where the images of devices are these
abbrev pub after_cycle : {A : Type 0} → (A → List ℕ → ℕ → List ℕ) → (A → List ℕ → ℕ → A) → Setup → ℕ → (ℕ → List ℕ) → List (AppRun A) → List (AppRun A)
after_cycle reply next setup k image runs =
    map (λ run. after_turn reply next setup k (after_image (image run.device) run)) (after_takes setup k runs)

-- The apps of a plant after so many cycles of a world, each followed by one turn of every app. An app is given by its
-- first state, what it replies, and its next state.
pub data IsLockstep {A : Type 0} (reply : A → List ℕ → ℕ → List ℕ) (next : A → List ℕ → ℕ → A) (setup : Setup)
    (world : List WorldRow) (states : List A) : ℕ → List (AppRun A) → Type 0 where
  begun : IsLockstep reply next setup world states 0 (new_runs setup.plant states)
  played : (k : ℕ) (runs : List (AppRun A)) (image : ℕ → List ℕ) → IsLockstep reply next setup world states k runs →
      All (λ (run : AppRun A). IsImage setup world (words_of_runs (after_takes setup k runs)) run.device k (image run.device)) runs →
      IsLockstep reply next setup world states (suc k) (after_cycle reply next setup k image runs)

-- what a record has of an app
pub record AppLog : Type 0 where
  pub takes : List Given
  pub images : List (List ℕ)
  pub turns : List Turn

abbrev pub log_of : {A : Type 0} → AppRun A → AppLog
log_of run = record { takes = run.takes; images = run.images; turns = run.turns }

-- The record of a run: what it has of each app, in the order of the plant's, and the journal's rows.
pub record RunRecord (Row : Type 0) : Type 0 where
  pub apps : List AppLog
  pub journal : List Row

-- The record is that of the lockstep run over all rows of a world. `IsJournal` says which rows the journal has.
pub record IsLockstepRecord {A Row : Type 0} (reply : A → List ℕ → ℕ → List ℕ) (next : A → List ℕ → ℕ → A) (setup : Setup)
    (world : List WorldRow) (states : List A) (IsJournal : List Row → Type 0) (r : RunRecord Row) : Type 0 where
  pub runs : List (AppRun A)
  pub played : IsLockstep reply next setup world states (length world) runs
  pub apps : r.apps ≡ map log_of runs
  pub journal : IsJournal r.journal
