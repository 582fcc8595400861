-- Records that a plant makes again.
use Rattle.std.specs.Prelude.{◌≡◌, ℕ, List, length, map, All, Some, slice_get}
use Rattle.io_buffers.specs.Given.{Given}
use Rattle.irt_base.specs.declared.blocks.Bundle.{Bundle}
use Rattle.irt_base.specs.declared.numbers.PortNo.{PortNo}
use Rattle.irt_base.specs.declared.plants.App.{App}
use Rattle.irt_base.specs.declared.plants.Plant.{Plant}
use Rattle.irt_world.specs.Rows.{world_rows}
use Rattle.irt_world.specs.declared.rows.World.{World}
use Rattle.iso_rules.specs.Legal.{HasEachCycle, HasTrueImages}
use Rattle.iso_rules.specs.Lockstep.{AppLog, words_taken}
use Rattle.iso_rules.specs.Station.{output_count}
use Rattle.iso_run.specs.Run.{IsRunJournal}
use Rattle.plan_rules.specs.Plan.{setup_of}
use Rattle.plan_rules.specs.Way.{Setup}
use Rattle.record_text.specs.declared.record.Record.{Record}

-- An app's log has a take and an image for each of so many cycles, and its takes have the words of its device's output.
pub record HasAppShape (setup : Setup) (cycles device : ℕ) (log : AppLog) : Type 0 where
  pub each : HasEachCycle cycles log
  pub words : All (λ (t : Given). length t.words ≡ output_count setup device) log.takes

-- There is such a log for each app of the plant.
pub record HasShape (setup : Setup) (cycles : ℕ) (logs : List AppLog) : Type 0 where
  pub count : length logs ≡ length setup.plant.apps
  pub apps : (n : ℕ) (app : App) (log : AppLog) → slice_get setup.plant.apps n ≡ Some app →
      slice_get logs n ≡ Some log → HasAppShape setup cycles app.device.0 log

-- The words taken from all apps, by app and cycle.
abbrev pub words_of_logs : List AppLog → ℕ → ℕ → List ℕ
words_of_logs logs = words_taken (map (λ (l : AppLog). l.takes) logs)

-- The images and the journal of a record are those that a plan makes over a world, where in each cycle was taken what
-- the record says.
pub record IsReplayed (plant : Plant) (bundles : List Bundle) (walks : List (List PortNo)) (world : World)
    (r : Record) : Type 0 where
  pub images : (n : ℕ) (app : App) (log : AppLog) → slice_get plant.apps n ≡ Some app → slice_get r.apps n ≡ Some log →
      HasTrueImages (setup_of plant bundles) (world_rows plant bundles world) (words_of_logs r.apps) app.device.0 log
  pub journal : IsRunJournal plant bundles walks world r.journal
