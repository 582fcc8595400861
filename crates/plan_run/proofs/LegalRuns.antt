-- The record of a run at either pace is legal, and fits the plant.
use Rattle.std.proofs.Common.{◌≡◌, ℕ, ◌≤◌, List, length, sym, ◌∙◌, arith}
use Rattle.std.proofs.lemmas.List.{length-map}
use Rattle.cycle_rows.specs.Journal.{IsJournal}
use Rattle.cycle_rows.specs.declared.rows.JournalRow.{JournalRow}
use Rattle.irt_base.specs.declared.blocks.Bundle.{Bundle}
use Rattle.irt_base.specs.declared.numbers.PortNo.{PortNo}
use Rattle.irt_base.specs.declared.plants.Plant.{Plant}
use Rattle.irt_world.specs.Rows.{world_row, world_rows}
use Rattle.irt_world.specs.declared.rows.World.{World}
use Rattle.iso_app.specs.Kinds.{kind_of, reply_of}
use Rattle.iso_app.specs.declared.kinds.AppKind.{AppKind}
use Rattle.iso_rules.specs.Legal.{IsLegal}
use Rattle.iso_rules.specs.Lockstep.{RunRecord, IsLockstepRecord}
use Rattle.parcel_rules.specs.Rows.{parcel_rows}
use Rattle.plan_rules.specs.Plan.{IsPlan, setup_of}
use Rattle.plan_rules.specs.Places.{IsAccepted}
use Rattle.plan_rules.specs.Way.{Setup}
use Rattle.plan_rules.specs.World.{WorldRow}
use Rattle.plan_run.specs.Run.{Pace, in_lockstep, freely, IsLegalRecord, IsRecordBy, IsRecordOf, kinds_of, next_kind}
use Rattle.record_fits.specs.Fits.{FitsPlant}
use Rattle.record_numbers.specs.Numbers.{HasNumbers}
use Rattle.record_text.specs.Text.{run_of}
use Rattle.record_text.specs.declared.record.Record.{Record}

-- a lockstep run of one cycle or more is legal
abbrev pub LockstepIsLegal : Type 0
LockstepIsLegal = (setup : Setup) (world : List WorldRow) (states : List AppKind) (parcels : ℕ → List JournalRow) (r : RunRecord JournalRow) → 1 ≤ length world →
    length states ≡ length setup.plant.apps →
    IsLockstepRecord reply_of next_kind setup world states (IsJournal setup world parcels (length world)) r →
    IsLegal reply_of next_kind setup world states (IsJournal setup world parcels (length world)) r

-- a legal record whose numbers are in range fits the plant
abbrev pub LegalFits : Type 0
LegalFits = (plant : Plant) (bundles : List Bundle) → IsPlan plant bundles → IsAccepted plant bundles → (walks : List (List PortNo)) (world : List WorldRow) (firsts : List AppKind) (r : Record) →
    r.cycles ≡ length world →
    IsLegal reply_of next_kind (setup_of plant bundles) world firsts (IsJournal (setup_of plant bundles) world (parcel_rows plant bundles walks world) (length world)) (run_of r) →
    HasNumbers r → FitsPlant plant r

module _ (plant : Plant) (bundles : List Bundle) (walks : List (List PortNo)) (world : World) (r : Record) where
  pub cycles_are : length (world_rows plant bundles world) ≡ length world.rows
  cycles_are = length-map world.rows (world_row plant bundles)

  -- a lockstep record is legal
  pub legal_of : LockstepIsLegal → 1 ≤ length world.rows → IsRecordOf plant bundles walks world r → IsLegalRecord plant bundles walks world r
  legal_of law some is =
      let rows = world_rows plant bundles world in
      let counted = cycles_are in
      record {
        cycles = is.cycles;
        legal = law (setup_of plant bundles) rows (kinds_of plant) (parcel_rows plant bundles walks rows) (run_of r) (omega (arith, counted, some)) (length-map plant.apps kind_of) is.lockstep;
      }

  legal_by : LockstepIsLegal → (pace : Pace) → 1 ≤ length world.rows → IsRecordBy pace plant bundles walks world r → IsLegalRecord plant bundles walks world r
  legal_by law in_lockstep some is = legal_of law some is
  legal_by law freely some is = is

  pub run_fits : LockstepIsLegal → LegalFits → (pace : Pace) → IsPlan plant bundles → IsAccepted plant bundles → 1 ≤ length world.rows →
      IsRecordBy pace plant bundles walks world r → HasNumbers r → FitsPlant plant r
  run_fits law fits pace plan accepted some is numbers =
      let legal = legal_by law pace some is in
      fits plant bundles plan accepted walks (world_rows plant bundles world) (kinds_of plant) r (legal.cycles ∙ sym cycles_are) legal.legal numbers
