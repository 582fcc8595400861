-- The runs of an accepted plan with the applications that its plant names, and their texts.
use Rattle.std.specs.Prelude.{◌≡◌, ℕ, List, length, map}
use Rattle.irt_base.specs.declared.blocks.Bundle.{Bundle}
use Rattle.irt_base.specs.declared.numbers.PortNo.{PortNo}
use Rattle.irt_base.specs.declared.plants.Plant.{Plant}
use Rattle.irt_world.specs.Rows.{world_rows}
use Rattle.irt_world.specs.declared.rows.World.{World}
use Rattle.iso_app.specs.Kinds.{kind_of, reply_of, state_after}
use Rattle.iso_app.specs.declared.kinds.AppKind.{AppKind}
use Rattle.iso_rules.specs.Legal.{IsLegal}
use Rattle.iso_run.specs.Run.{IsRunJournal, IsRunRecord}
use Rattle.plan_rules.specs.Plan.{setup_of}
use Rattle.record_fits.specs.Fits.{FitsPlant}
use Rattle.record_text.specs.Text.{record_text, run_of}
use Rattle.record_text.specs.declared.record.Record.{Record}

-- the applications of a plant before their first turn
abbrev pub kinds_of : Plant → List AppKind
kinds_of plant = map kind_of plant.apps

abbrev pub next_kind : AppKind → List ℕ → ℕ → AppKind
next_kind app input count = state_after app input

-- the record of the lockstep run with these applications
abbrev pub IsRecordOf : Plant → List Bundle → List (List PortNo) → World → Record → Type 0
IsRecordOf plant bundles walks world record_of_run =
    IsRunRecord reply_of next_kind plant bundles walks world (kinds_of plant) record_of_run

-- a record that any run with these applications may leave, in whatever order they turn
pub record IsLegalRecord (plant : Plant) (bundles : List Bundle) (walks : List (List PortNo)) (world : World)
    (r : Record) : Type 0 where
  pub cycles : r.cycles ≡ length world.rows
  pub legal : IsLegal reply_of next_kind (setup_of plant bundles) (world_rows plant bundles world) (kinds_of plant)
      (IsRunJournal plant bundles walks world) (run_of r)

-- How a run goes: each application turns once after each cycle, or in a thread of its own.
pub data Pace : Type 0 where
  in_lockstep : Pace
  freely : Pace

-- the record of a run of this pace
abbrev pub IsRecordBy : Pace → Plant → List Bundle → List (List PortNo) → World → Record → Type 0
IsRecordBy in_lockstep plant bundles walks world r = IsRecordOf plant bundles walks world r
IsRecordBy freely plant bundles walks world r = IsLegalRecord plant bundles walks world r

-- the text of a record of a plant
abbrev pub text_of : Plant → Record → List ℕ
text_of plant r = record_text plant r.cycles (run_of r)

-- a text is that of a run's record, which fits the plant
pub record IsRunText (pace : Pace) (plant : Plant) (bundles : List Bundle) (walks : List (List PortNo))
    (world : World) (text : List ℕ) : Type 0 where
  pub log : Record
  pub is_record : IsRecordBy pace plant bundles walks world log
  pub fits : FitsPlant plant log
  pub says : text ≡ text_of plant log
