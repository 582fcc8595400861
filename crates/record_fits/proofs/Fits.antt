-- Legal records fit their plants.
use Rattle.std.proofs.Common.{◌≡◌, ℕ, List, length, inl, inr, sym, ◌∙◌, arith, slice_index_or, All}
use Rattle.std.specs.List.{AllByRecursion}
use Rattle.std.proofs.lemmas.List.Elements.{All-contains, All-from_recursion, recursion_from_All}
use Rattle.std.proofs.lemmas.Option.{slice_get-get_or}
use Rattle.cycle_rows.specs.Journal.{IsJournal}
use Rattle.cycle_rows.specs.Rows.{cycle_of}
use Rattle.cycle_rows.specs.declared.rows.JournalRow.{JournalRow}
use Rattle.cycle_rows.proofs.Journals.{IsOfCycle, row_of}
use Rattle.cycle_rows.proofs.Lists.{all_of}
use Rattle.irt_base.specs.declared.blocks.Bundle.{Bundle}
use Rattle.irt_base.specs.declared.numbers.PortNo.{PortNo}
use Rattle.irt_base.specs.declared.plants.Plant.{Plant}
use Rattle.iso_rules.specs.Legal.{HasEachCycle, IsLegal}
use Rattle.iso_rules.specs.Lockstep.{AppLog}
use Rattle.parcel_rules.specs.Rows.{parcel_rows}
use Rattle.plan_rules.specs.Plan.{IsPlan, setup_of}
use Rattle.plan_rules.specs.World.{WorldRow}
use Rattle.plan_rules.proofs.Held.{some_at}
use Rattle.record_fits.proofs.Devices.{IsOnPlant, frame_row_on_plant}
use Rattle.record_fits.proofs.ParcelDevices.{parcel_rows_on_plant}
use Rattle.record_fits.specs.Fits.{FitsPlant}
use Rattle.record_laws.specs.Fitting.{HasRange, IsLogOf, IsRowOf}
use Rattle.record_numbers.specs.Numbers.{HasLogNumbers, HasNumbers}
use Rattle.record_text.specs.Text.{StandByCycle, run_of}
use Rattle.record_text.specs.declared.record.Record.{Record}

log_fits : (cycles rows : ℕ) (log : AppLog) → cycles ≡ rows → HasEachCycle rows log → HasLogNumbers log → IsLogOf cycles log
log_fits cycles rows log count each numbers = record {
  take_count = each.takes ∙ sym count;
  takes = numbers.takes;
  image_count = each.images ∙ sym count;
  images = numbers.images;
  turn_count = numbers.turn_count;
  turns = numbers.turns;
}

module _ (plant : Plant) (bundles : List Bundle) (plan : IsPlan plant bundles) (walks : List (List PortNo)) (world : List WorldRow) where
  abbrev parcels : ℕ → List JournalRow
  parcels = parcel_rows plant bundles walks world

  abbrev AreOfTheirCycles : Type 0
  AreOfTheirCycles = (k : ℕ) → All (λ (r : JournalRow). cycle_of r ≡ k) (parcels k)

  row_in_cycle : AreOfTheirCycles → (k : ℕ) (r : JournalRow) → IsOfCycle (setup_of plant bundles) world parcels k r → cycle_of r ≡ k
  row_in_cycle own k r (inl frame) = frame.0
  row_in_cycle own k r (inr parcel) = All-contains (λ (s : JournalRow). cycle_of s ≡ k) (parcels k) r (own k) parcel

  row_on_plant : (k : ℕ) (r : JournalRow) → IsOfCycle (setup_of plant bundles) world parcels k r → IsOnPlant plant r
  row_on_plant k r (inl frame) = frame_row_on_plant plant bundles plan world r frame.1
  row_on_plant k r (inr parcel) = All-contains (IsOnPlant plant) (parcels k) r (parcel_rows_on_plant plant plan.rules walks bundles world k) parcel

  rows_fit : AreOfTheirCycles → (cycles n : ℕ) (rows : List JournalRow) → cycles ≡ n → IsJournal (setup_of plant bundles) world parcels n rows →
      AllByRecursion HasRange rows → AllByRecursion (IsRowOf plant cycles) rows
  rows_fit own cycles n rows count journal ranges =
      recursion_from_All (IsRowOf plant cycles) rows (all_of (IsRowOf plant cycles) rows (λ r is.
      let (k, below, of) = row_of (setup_of plant bundles) world parcels n rows journal r is in
      let here = row_in_cycle own k r of in
      record {
        cycle = omega (arith, below, here, count);
        device = row_on_plant k r of;
        range = All-contains HasRange rows r (All-from_recursion HasRange rows ranges) is;
      }))

  module _ {A : Type 0} (reply : A → List ℕ → ℕ → List ℕ) (next : A → List ℕ → ℕ → A) (firsts : List A) (r : Record) where
    abbrev IsLegalRun : Type 0
    IsLegalRun = IsLegal reply next (setup_of plant bundles) world firsts (IsJournal (setup_of plant bundles) world parcels (length world)) (run_of r)

    apps_fit : r.cycles ≡ length world → IsLegalRun → HasNumbers r → AllByRecursion (IsLogOf r.cycles) r.apps
    apps_fit count legal numbers =
        recursion_from_All (IsLogOf r.cycles) r.apps (λ n d below.
        let (app, at) = some_at plant.apps n (omega (arith, below, legal.count)) in
        let (state, first) = some_at firsts n (omega (arith, below, legal.count, legal.states)) in
        let log = slice_index_or r.apps n d in
        let is = legal.apps n app state log at first (slice_get-get_or r.apps n d below) in
        log_fits r.cycles (length world) log count is.cycles (All-from_recursion HasLogNumbers r.apps numbers.apps n d below))

    pub legal_fits : AreOfTheirCycles → StandByCycle r.journal → r.cycles ≡ length world → IsLegalRun → HasNumbers r → FitsPlant plant r
    legal_fits own order count legal numbers = record {
      count = numbers.cycles;
      app_count = legal.count;
      apps = apps_fit count legal numbers;
      row_count = numbers.row_count;
      rows = rows_fit own r.cycles (length world) r.journal count legal.journal numbers.rows;
      order = order;
    }
