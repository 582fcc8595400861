-- The record of a lockstep run of an accepted plan.
use Rattle.std.specs.Prelude.{◌≡◌, ℕ, List, length}
use Rattle.irt_base.specs.declared.blocks.Bundle.{Bundle}
use Rattle.irt_base.specs.declared.numbers.PortNo.{PortNo}
use Rattle.irt_base.specs.declared.plants.Plant.{Plant}
use Rattle.cycle_rows.specs.Journal.{IsJournal}
use Rattle.cycle_rows.specs.declared.rows.JournalRow.{JournalRow}
use Rattle.irt_world.specs.Rows.{world_rows}
use Rattle.irt_world.specs.declared.rows.World.{World}
use Rattle.iso_rules.specs.Lockstep.{IsLockstepRecord}
use Rattle.parcel_rules.specs.Rows.{parcel_rows}
use Rattle.plan_rules.specs.Plan.{setup_of}
use Rattle.record_text.specs.Text.{run_of}
use Rattle.record_text.specs.declared.record.Record.{Record}

-- the rows of a world's journal: of frames, and of the parcels that take these walks
abbrev pub IsRunJournal : Plant → List Bundle → List (List PortNo) → World → List JournalRow → Type 0
IsRunJournal plant bundles walks world rows =
    IsJournal (setup_of plant bundles) (world_rows plant bundles world) (parcel_rows plant bundles walks (world_rows plant bundles world))
    (length (world_rows plant bundles world)) rows

-- The record has a cycle for each row of the world, and is that of the lockstep run.
pub record IsRunRecord {A : Type 0} (reply : A → List ℕ → ℕ → List ℕ) (next : A → List ℕ → ℕ → A) (plant : Plant) (bundles : List Bundle)
    (walks : List (List PortNo)) (world : World) (states : List A) (r : Record) : Type 0 where
  pub cycles : r.cycles ≡ length world.rows
  pub lockstep : IsLockstepRecord reply next (setup_of plant bundles) (world_rows plant bundles world) states
      (IsRunJournal plant bundles walks world) (run_of r)
