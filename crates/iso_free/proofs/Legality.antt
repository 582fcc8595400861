-- The record of a run that is done is legal.
use Rattle.std.specs.Prelude.{Option, Some, None, Result, Ok, Err, IfOk, slice_get}
use Rattle.std.proofs.Common.{◌≡◌, ℕ, zero, suc, ◌<◌, List, [], ◌∷◌, length, get_or, map, refl, sym, ap, ◌∙◌, subst, arith}
use Rattle.std.proofs.lemmas.List.{length-map}
use Rattle.cycle_rows.specs.Journal.{IsJournal}
use Rattle.cycle_rows.specs.declared.rows.JournalRow.{JournalRow}
use Rattle.io_buffers.specs.Given.{Given}
use Rattle.irt_base.specs.declared.blocks.Bundle.{Bundle}
use Rattle.irt_base.specs.declared.numbers.PortNo.{PortNo}
use Rattle.irt_base.specs.declared.plants.Plant.{Plant}
use Rattle.irt_world.specs.Rows.{world_row, world_rows}
use Rattle.irt_world.specs.declared.rows.World.{World}
use Rattle.iso_plant.specs.History.{AppCycles}
use Rattle.iso_plant.specs.Replay.{PlantView, images_of, setup_in, takes_of, world_in}
use Rattle.iso_plant.specs.Step.{IsSamePlant}
use Rattle.iso_rules.specs.Legal.{IsLegal, IsLegalLog}
use Rattle.iso_rules.specs.Lockstep.{AppLog, words_taken}
use Rattle.iso_rules.specs.declared.turn.Turn.{Turn}
use Rattle.iso_run.specs.Run.{IsRunJournal}
use Rattle.parcel_rules.specs.Rows.{parcel_rows}
use Rattle.plan_rules.specs.Plan.{setup_of}
use Rattle.record_text.specs.Text.{run_of}
use Rattle.record_text.specs.declared.record.Record.{Record}
use Rattle.free_end.specs.Ended.{HasEnded, HasLegalLog}
use Rattle.free_plant.specs.Named.{IsOfRun, cycles_of}
use Rattle.free_plant.proofs.ByName.{run_cycles}
use Rattle.iso_free.specs.Record.{IsRecordOf, logs_of}

logs_count : (hs : List AppCycles) (all : List (List Turn)) → length hs ≡ length all → length (logs_of hs all) ≡ length hs
logs_count [] all same = refl
logs_count (h ∷ hs) [] same = absurd (omega arith)
logs_count (h ∷ hs) (t ∷ all) same = let n = logs_count hs all (omega arith) in omega arith

log_of : AppCycles → List Turn → AppLog
log_of h turns = record { takes = h.takes; images = h.images; turns = turns }

-- the takes of all apps
takes_are : (hs : List AppCycles) (all : List (List Turn)) (vs : List (List Given)) → length hs ≡ length all → length vs ≡ length hs
    → ((n : ℕ) (h : AppCycles) → slice_get hs n ≡ Some h → h.takes ≡ get_or vs n []) → map (λ (l : AppLog). l.takes) (logs_of hs all) ≡ vs
takes_are [] all [] same count each = refl
takes_are [] all (v ∷ vs) same count each = absurd (omega arith)
takes_are (h ∷ hs) [] vs same count each = absurd (omega arith)
takes_are (h ∷ hs) (t ∷ all) [] same count each = absurd (omega arith)
takes_are (h ∷ hs) (t ∷ all) (v ∷ vs) same count each =
    λ i. each 0 h refl i ∷ takes_are hs all vs (omega arith) (omega arith) (λ n k at. each (suc n) k at) i

-- the log of an app
found_log : (hs : List AppCycles) (all : List (List Turn)) (n : ℕ) (log : AppLog) → slice_get (logs_of hs all) n ≡ Some log
    → (h : AppCycles) × (slice_get hs n ≡ Some h) × (n < length all) × (log ≡ record { takes = h.takes; images = h.images; turns = get_or all n [] })
found_log [] all n log at = absurd (cc)
found_log (h ∷ hs) [] n log at = absurd (cc)
found_log (h ∷ hs) (t ∷ all) zero log at = (h, refl, omega arith, (let e : record { takes = h.takes; images = h.images; turns = t } ≡ log = (cc) in sym e))
found_log (h ∷ hs) (t ∷ all) (suc n) log at = let f = found_log hs all n log at in (f.0, f.1, (let b = f.2 in omega arith), f.3)

module _ {A : Type 0} (reply : A → List ℕ → ℕ → List ℕ) (next : A → List ℕ → ℕ → A) (firsts : List A) (start : Option PlantView) (v : PlantView) where
  pub record_of : (r : Record) (hs : List AppCycles) (all : List (List Turn)) → HasEnded start v → r.cycles ≡ cycles_of start
      → length hs ≡ length v.plant.apps → length all ≡ length hs
      → ((n : ℕ) (h : AppCycles) → slice_get hs n ≡ Some h → (h.takes ≡ takes_of n v) × (h.images ≡ images_of n v))
      → ((n : ℕ) → n < length all → HasLegalLog reply next firsts v n (get_or all n []))
      → r.apps ≡ logs_of hs all → r.journal ≡ v.rows → IsRecordOf reply next firsts start v r
  record_of r hs all ended cycles count same left legal apps journal = record {
    ended = ended;
    cycles = cycles;
    count = ap (λ (l : List AppLog). length l) apps ∙ (logs_count hs all (sym same) ∙ count);
    takes = ap (λ (l : List AppLog). map (λ (x : AppLog). x.takes) l) apps
        ∙ takes_are hs all v.takes (sym same) (ended.replay.cycles.takes ∙ sym count) (λ n h at. (left n h at).0);
    logs = λ n app state log at first got. (
        let f = found_log hs all n log (ap (λ (l : List AppLog). slice_get l n) (sym apps) ∙ got) in
        let e = left n f.0 f.1 in
        subst (λ (l : AppLog). IsLegalLog reply next (setup_in v) (world_in v) (words_taken v.takes) app.device.0 state l)
        ((λ i. record { takes = sym e.0 i; images = sym e.1 i; turns = get_or all n [] }) ∙ sym f.3)
        (legal n f.2 app state at first));
    journal = journal;
  }

  legal_there : (r : Record) → length firsts ≡ length v.plant.apps → IsRecordOf reply next firsts start v r
      → IsLegal reply next (setup_in v) (world_in v) firsts (IsRunJournal v.plant v.bundles v.walks v.world) (run_of r)
  legal_there r firsts_count is = record {
    states = firsts_count;
    count = is.count;
    apps = λ n app state log at first got.
        subst (λ (t : List (List Given)). IsLegalLog reply next (setup_in v) (world_in v) (words_taken t) app.device.0 state log) (sym is.takes) (is.logs n app state log at first got);
    journal =
        (let done : v.done ≡ length (world_in v) = is.ended.done ∙ (run_cycles start v is.ended.run ∙ sym (length-map v.world.rows (world_row v.plant v.bundles))) in
        subst (λ (rows : List JournalRow). IsJournal (setup_in v) (world_in v) (parcel_rows v.plant v.bundles v.walks (world_in v)) (length (world_in v)) rows) (sym is.journal)
        (subst (λ (n : ℕ). IsJournal (setup_in v) (world_in v) (parcel_rows v.plant v.bundles v.walks (world_in v)) n v.rows) done is.ended.replay.journal));
  }

  legal_same : (s : PlantView) (r : Record) → IsSamePlant s v
      → IsLegal reply next (setup_in v) (world_in v) firsts (IsRunJournal v.plant v.bundles v.walks v.world) (run_of r)
      → IsLegal reply next (setup_in s) (world_in s) firsts (IsRunJournal s.plant s.bundles s.walks s.world) (run_of r)
  legal_same s r same legal =
      subst (λ (w : World). IsLegal reply next (setup_of s.plant s.bundles) (world_rows s.plant s.bundles w) firsts (IsRunJournal s.plant s.bundles s.walks w) (run_of r)) same.world
      (subst (λ (k : List (List PortNo)). IsLegal reply next (setup_of s.plant s.bundles) (world_rows s.plant s.bundles v.world) firsts (IsRunJournal s.plant s.bundles k v.world) (run_of r)) same.walks
      (subst (λ (b : List Bundle). IsLegal reply next (setup_of s.plant b) (world_rows s.plant b v.world) firsts (IsRunJournal s.plant b v.walks v.world) (run_of r)) same.bundles
      (subst (λ (p : Plant). IsLegal reply next (setup_of p v.bundles) (world_rows p v.bundles v.world) firsts (IsRunJournal p v.bundles v.walks v.world) (run_of r)) same.plant legal)))

  pub legal_from : (s : PlantView) (r : Record) → start ≡ Some s → length firsts ≡ length s.plant.apps → IsRecordOf reply next firsts start v r
      → IsLegal reply next (setup_in s) (world_in s) firsts (IsRunJournal s.plant s.bundles s.walks s.world) (run_of r)
  legal_from s r named count is =
      let same : IsSamePlant s v = subst (λ (o : Option PlantView). IsOfRun o v) named is.ended.run in
      legal_same s r same (legal_there r (count ∙ ap (λ (p : Plant). length p.apps) (sym same.plant)) is)

-- the same where a plant with these names was run
pub legal_moved : {A : Type 0} (reply : A → List ℕ → ℕ → List ℕ) (next : A → List ℕ → ℕ → A) (firsts : List A) (v : PlantView) (plant : Plant) (bundles : List Bundle)
    (walks : List (List PortNo)) (world : World) (r : Record) → v.plant ≡ plant → v.bundles ≡ bundles → v.walks ≡ walks → v.world ≡ world
    → IsLegal reply next (setup_in v) (world_in v) firsts (IsRunJournal v.plant v.bundles v.walks v.world) (run_of r)
    → IsLegal reply next (setup_of plant bundles) (world_rows plant bundles world) firsts (IsRunJournal plant bundles walks world) (run_of r)
legal_moved reply next firsts v plant bundles walks world r p b k w legal =
    legal_same reply next firsts None v (record v { plant = plant; bundles = bundles; walks = walks; world = world }) r (record { plant = p; bundles = b; walks = k; world = w }) legal

-- the number of cycles of a run by its name
pub named_cycles : (start : Option PlantView) (s : PlantView) (n cycles : ℕ) → start ≡ Some s → n ≡ cycles_of start → cycles ≡ length s.world.rows → n ≡ cycles
named_cycles start s n cycles named is same = is ∙ (ap cycles_of named ∙ sym same)

-- what holds of a result where another fact does
pub if_ok : {X E : Type 0} (result : Result X E) (P Q : X → Type 0) → ((x : X) → P x → Q x) → IfOk result P → IfOk result Q
if_ok (Ok x) P Q so h = so x h
if_ok (Err e) P Q so h = tt
