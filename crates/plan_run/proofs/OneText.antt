-- A lockstep run has one record, and so one text; and a text is of one record.
use Rattle.std.proofs.Common.{◌≡◌, ℕ, List, length, sym, ◌∙◌, ap}
use Rattle.cycle_rows.specs.Journal.{IsJournal}
use Rattle.cycle_rows.specs.declared.rows.JournalRow.{JournalRow}
use Rattle.irt_base.specs.declared.blocks.Bundle.{Bundle}
use Rattle.irt_base.specs.declared.numbers.PortNo.{PortNo}
use Rattle.irt_base.specs.declared.plants.Plant.{Plant}
use Rattle.irt_world.specs.declared.rows.World.{World}
use Rattle.iso_app.specs.Kinds.{reply_of}
use Rattle.iso_app.specs.declared.kinds.AppKind.{AppKind}
use Rattle.iso_rules.specs.Lockstep.{RunRecord, IsLockstepRecord}
use Rattle.irt_world.specs.Rows.{world_rows}
use Rattle.parcel_rules.specs.Rows.{parcel_rows}
use Rattle.plan_rules.specs.Plan.{setup_of}
use Rattle.plan_rules.specs.Way.{Setup}
use Rattle.plan_rules.specs.World.{WorldRow}
use Rattle.plan_run.specs.Run.{in_lockstep, IsRecordOf, IsRunText, kinds_of, next_kind, text_of}
use Rattle.plant_rules.specs.Meets.{MeetsRules}
use Rattle.record_fits.specs.Fits.{FitsPlant}
use Rattle.record_laws.specs.Fitting
use Rattle.record_text.specs.Text.{record_text, run_of}
use Rattle.record_text.specs.declared.record.Record.{Record}

-- a lockstep run has one record
abbrev pub OneRecord : Type 0
OneRecord = (setup : Setup) (world : List WorldRow) (states : List AppKind) (parcels : ℕ → List JournalRow) (r s : RunRecord JournalRow) →
    IsLockstepRecord reply_of next_kind setup world states (IsJournal setup world parcels (length world)) r →
    IsLockstepRecord reply_of next_kind setup world states (IsJournal setup world parcels (length world)) s → r ≡ s

pub one_record : OneRecord → (plant : Plant) (bundles : List Bundle) (walks : List (List PortNo)) (world : World) (r s : Record) →
    IsRecordOf plant bundles walks world r → IsRecordOf plant bundles walks world s → (r.cycles ≡ s.cycles) × (run_of r ≡ run_of s)
one_record law plant bundles walks world r s a b =
    let rows = world_rows plant bundles world in (
      a.cycles ∙ sym b.cycles,
      law (setup_of plant bundles) rows (kinds_of plant) (parcel_rows plant bundles walks rows) (run_of r) (run_of s) a.lockstep b.lockstep,
    )

pub one_text : OneRecord → (plant : Plant) (bundles : List Bundle) (walks : List (List PortNo)) (world : World) (text other : List ℕ) →
    IsRunText in_lockstep plant bundles walks world text → IsRunText in_lockstep plant bundles walks world other → text ≡ other
one_text law plant bundles walks world text other a b =
    let (cycles, runs) = one_record law plant bundles walks world a.log b.log a.is_record b.is_record in
    a.says
    ∙ ap (λ n. record_text plant n (run_of a.log)) cycles
    ∙ ap (record_text plant b.log.cycles) runs
    ∙ sym b.says

-- records that fit a plant have their own texts
abbrev pub OneText : Type 0
OneText = (plant : Plant) (cycles others : ℕ) (r s : RunRecord JournalRow) → MeetsRules plant → Fitting.IsRecordOf plant cycles r → Fitting.IsRecordOf plant others s →
    record_text plant cycles r ≡ record_text plant others s → (cycles ≡ others) × (r ≡ s)

pub one_log : OneText → (plant : Plant) → MeetsRules plant → (r s : Record) → FitsPlant plant r → FitsPlant plant s → text_of plant r ≡ text_of plant s → r ≡ s
one_log law plant rules r s a b same =
    let (cycles, runs) = law plant r.cycles s.cycles (run_of r) (run_of s) rules a b same in
    λ i. record { cycles = cycles i; apps = (runs i).apps; journal = (runs i).journal }
