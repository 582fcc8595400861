-- The record of a run that is done.
use Rattle.std.specs.Prelude.{◌≡◌, ℕ, Option, Some, List, [], ◌∷◌, length, map, slice_get}
use Rattle.irt_base.specs.declared.plants.App.{App}
use Rattle.iso_plant.specs.History.{AppCycles}
use Rattle.iso_plant.specs.Replay.{PlantView, setup_in, world_in}
use Rattle.iso_rules.specs.Legal.{IsLegalLog}
use Rattle.iso_rules.specs.Lockstep.{AppLog, words_taken}
use Rattle.iso_rules.specs.declared.turn.Turn.{Turn}
use Rattle.record_text.specs.declared.record.Record.{Record}
use Rattle.free_end.specs.Ended.{HasEnded}
use Rattle.free_plant.specs.Named.{cycles_of}

-- what is left of each app: takes and images by cycle, and its turns
abbrev pub logs_of : List AppCycles → List (List Turn) → List AppLog
logs_of [] all = []
logs_of (h ∷ hs) [] = []
logs_of (h ∷ hs) (turns ∷ all) = record { takes = h.takes; images = h.images; turns = turns } ∷ logs_of hs all

-- The record of the plant's state at the end of a run, in which each app's log is legal.
pub record IsRecordOf {A : Type 0} (reply : A → List ℕ → ℕ → List ℕ) (next : A → List ℕ → ℕ → A) (firsts : List A)
    (start : Option PlantView) (v : PlantView) (r : Record) : Type 0 where
  pub ended : HasEnded start v
  pub cycles : r.cycles ≡ cycles_of start
  pub count : length r.apps ≡ length v.plant.apps
  pub takes : map (λ (l : AppLog). l.takes) r.apps ≡ v.takes
  pub logs : (n : ℕ) (app : App) (state : A) (log : AppLog) → slice_get v.plant.apps n ≡ Some app → slice_get firsts n ≡ Some state →
      slice_get r.apps n ≡ Some log →
      IsLegalLog reply next (setup_in v) (world_in v) (words_taken v.takes) app.device.0 state log
  pub journal : r.journal ≡ v.rows
