-- The record of a run of accepted blocks is safe, at either pace.
use Rattle.std.proofs.Common.{◌≡◌, ℕ, ◌≤◌, List, length, Some, slice_get, sym, ◌∙◌, ap, subst}
use Rattle.std.specs.Prelude.{All}
use Rattle.std.proofs.lemmas.Option.{same_Some}
use Rattle.cycle_rows.specs.Journal.{IsJournal}
use Rattle.cycle_rows.specs.Safe.{IsSafeJournal}
use Rattle.cycle_rows.specs.declared.rows.JournalRow.{JournalRow}
use Rattle.io_buffers.specs.declared.taken.Taken.{Taken}
use Rattle.irt_base.specs.declared.blocks.Bundle.{Bundle}
use Rattle.irt_base.specs.declared.numbers.PortNo.{PortNo}
use Rattle.irt_base.specs.declared.plants.App.{App}
use Rattle.irt_base.specs.declared.plants.Plant.{Plant}
use Rattle.irt_world.specs.Rows.{world_rows}
use Rattle.irt_world.specs.declared.rows.World.{World}
use Rattle.iso_app.specs.Kinds.{kind_of, reply_of}
use Rattle.iso_rules.specs.Legal.{IsLegalLog, KeepsUp}
use Rattle.iso_rules.specs.Lockstep.{AppLog, log_of}
use Rattle.iso_rules.proofs.PlayedRuns.{runs_at, map_at}
use Rattle.parcel_rules.specs.Rows.{parcel_rows}
use Rattle.plan_rules.specs.Plan.{IsPlan, setup_of}
use Rattle.plan_rules.specs.Places.{IsAccepted}
use Rattle.plan_rules.specs.Way.{Setup, IsInRange}
use Rattle.plan_rules.specs.World.{WorldRow}
use Rattle.plan_run.proofs.LegalRuns.{LockstepIsLegal, cycles_are, legal_of}
use Rattle.plan_run.specs.Run.{Pace, in_lockstep, freely, IsLegalRecord, IsRecordBy, IsRecordOf, kinds_of, next_kind}
use Rattle.plan_run.specs.Safe.{HaveWholeTakes, IsSafeRun, KeepPace, taken_in}
use Rattle.record_text.specs.declared.record.Record.{Record}

-- the journal of accepted blocks is safe, and a lockstep run of one cycle or more is legal
pub record RunLaws : Type 0 where
  pub journal : (plant : Plant) (bundles : List Bundle) → IsPlan plant bundles → IsAccepted plant bundles → (walks : List (List PortNo)) (world : List WorldRow) →
      All (IsInRange (setup_of plant bundles)) world → (cycles : ℕ) (rows : List JournalRow) →
      IsJournal (setup_of plant bundles) world (parcel_rows plant bundles walks world) cycles rows → IsSafeJournal (setup_of plant bundles) world cycles rows
  pub legal : LockstepIsLegal

module _ (laws : RunLaws) (plant : Plant) (bundles : List Bundle) (walks : List (List PortNo)) (world : World) (r : Record) where
  abbrev setup : Setup
  setup = setup_of plant bundles

  abbrev rows : List WorldRow
  rows = world_rows plant bundles world

  -- the run has as many cycles as the world has rows
  cycles_said : IsLegalRecord plant bundles walks world r → length rows ≡ r.cycles
  cycles_said is = cycles_are plant bundles walks world r ∙ sym is.cycles

  log_at : IsLegalRecord plant bundles walks world r → (n : ℕ) (app : App) (log : AppLog) → slice_get plant.apps n ≡ Some app → slice_get r.apps n ≡ Some log →
      IsLegalLog reply_of next_kind setup rows (taken_in r.apps) app.device.0 (kind_of app) log
  log_at is n app log own there = is.legal.apps n app (kind_of app) log own (map_at kind_of plant.apps n app own) there

  takes_of : IsLegalRecord plant bundles walks world r → HaveWholeTakes setup rows r.apps
  takes_of is n app log own there =
      let one = log_at is n app log own there in
      record {
        outputs = one.outputs;
        images = one.images;
        inputs = one.inputs;
        rising = one.numbers;
        windows = one.windows;
      }

  -- the numbers of a legal record's takes
  free_numbers : IsLegalRecord plant bundles walks world r → KeepPace freely plant r.cycles r.apps
  free_numbers is n app log own there = subst (λ cycles. KeepsUp cycles log) (cycles_said is) (log_at is n app log own there).pace

  -- those of a lockstep record
  step_numbers : IsRecordOf plant bundles walks world r → KeepPace in_lockstep plant r.cycles r.apps
  step_numbers is n app log own there =
      let lockstep = is.lockstep in
      let state : slice_get (kinds_of plant) n ≡ Some (kind_of app) = map_at kind_of plant.apps n app own in
      let (run, stands, of) = runs_at reply_of next_kind setup rows (kinds_of plant) (length rows) lockstep.runs lockstep.played n app (kind_of app) own state in
      let logged : log_of run ≡ log =
      same_Some (log_of run) log (sym (map_at log_of lockstep.runs n run stands) ∙ ap (λ (ls : List AppLog). slice_get ls n) (sym lockstep.apps) ∙ there) in
      record {
        outputs = λ k g at. ap (λ (t : Taken). t.number) (of.played.each_take k g (ap (λ (l : AppLog). slice_get l.takes k) logged ∙ at)).taken;
        inputs = λ k t at. ap (λ (x : Taken). x.number) (of.played.each_turn k t (ap (λ (l : AppLog). slice_get l.turns k) logged ∙ at)).taken;
      }

  legal_is_safe : (pace : Pace) → IsPlan plant bundles → IsAccepted plant bundles → All (IsInRange setup) rows → IsLegalRecord plant bundles walks world r →
      KeepPace pace plant r.cycles r.apps → IsSafeRun pace plant bundles walks world r
  legal_is_safe pace plan accepted ranges is numbers =
      let journal = is.legal.journal in
      let safe : IsSafeJournal setup rows r.cycles r.journal =
      subst (λ n. IsSafeJournal setup rows n r.journal) (cycles_said is) (laws.journal plant bundles plan accepted walks rows ranges (length rows) r.journal journal) in
      record {
        rows = journal;
        apart = safe.apart;
        sends = safe.sends;
        delivers = safe.delivers;
        drops = safe.drops;
        takes = takes_of is;
        numbers = numbers;
      }

  pub safe_run : (pace : Pace) → IsPlan plant bundles → IsAccepted plant bundles → All (IsInRange setup) rows → 1 ≤ length world.rows →
      IsRecordBy pace plant bundles walks world r → IsSafeRun pace plant bundles walks world r
  safe_run in_lockstep plan accepted ranges some is = legal_is_safe in_lockstep plan accepted ranges (legal_of plant bundles walks world r laws.legal some is) (step_numbers is)
  safe_run freely plan accepted ranges some is = legal_is_safe freely plan accepted ranges is (free_numbers is)
