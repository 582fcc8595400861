-- What right lines say is a whole record, and the lines of a whole record are right.
use Rattle.std.proofs.Common.{◌≡◌, ◌<◌, ◌≤◌, ◌+◌, ◌^◌, ◌==◌, ℕ, suc, Bool, true, false, List, [], ◌∷◌, ◌++◌, length, map, Some, refl, ◌∙◌, ap, arith}
use Rattle.std.specs.Prelude.{if◌then◌else◌, slice_get, zip}
use Rattle.std.specs.List.{AllByRecursion, flat_map, range_with_len}
use Rattle.std.proofs.lemmas.List.Elements.{All-from_recursion}
use Rattle.std.proofs.lemmas.List.Kept.{AllPairs-cons}
use Rattle.std.proofs.lemmas.List.Sums.{count_by-le-length}
use Rattle.cycle_rows.specs.Rows.{cycle_of}
use Rattle.cycle_rows.specs.declared.rows.JournalRow.{JournalRow}
use Rattle.io_buffers.specs.Given.{Given}
use Rattle.irt_base.specs.declared.numbers.DevId.{DevId}
use Rattle.irt_base.specs.declared.plants.App.{App}
use Rattle.irt_base.specs.declared.plants.Plant.{Plant}
use Rattle.irt_trace.specs.Journal.{letter_of}
use Rattle.iso_rules.specs.Lockstep.{AppLog, RunRecord}
use Rattle.iso_rules.specs.declared.turn.Turn.{Turn}
use Rattle.plant_rules.specs.Meets.{IsApp, MeetsRules}
use Rattle.record_laws.specs.Fitting.{AreWords, IsLogOf, IsRowOf, IsTake, IsTurn}
use Rattle.record_laws.specs.Lines.{at_place, images_in, last_of, lines_of, log_in, of_all_turns, of_cycle, of_cycles, of_images, of_rows, of_takes, of_turns, rows_in, takes_in, turns_in}
use Rattle.record_laws.specs.declared.line.Line.{Line}
use Rattle.record_laws.specs.declared.line.Line.TheVariants as says
use Rattle.record_laws.proofs.LinesFit.{All-each, All-more, All-place, range_fit, rows_fit}
use Rattle.record_text.specs.Text.{StandByCycle, lettered, rows_of_cycle}
use Rattle.record_reader.specs.Grow.{logs_in}
use Rattle.record_reader.specs.Order.{StandInOrder}
use Rattle.record_reader.specs.Reading.{input_words, output_words}
use Rattle.record_reader.specs.Right.{IsRightLine}
use Rattle.record_reader.specs.Whole.{HasWordCounts, IsWholeRecord}
use Rattle.record_reader.specs.declared.place.Place.TheVariants.{Done}
use Rattle.record_reader.proofs.Added.{Before, one, record_of}
use Rattle.record_reader.proofs.Held.{Held}
use Rattle.record_reader.proofs.Shape.{equal}
use Rattle.record_reader.proofs.TurnShape.{cycle_up_to}

-- ---- what right lines say of an app

-- the words of an item are as many as the plant gives
abbrev GoodTake : Plant → DevId → Given → Type 0
GoodTake plant d g = IsTake g × (length g.words ≡ output_words plant d)

abbrev GoodImage : Plant → DevId → List ℕ → Type 0
GoodImage plant d words = AreWords words × (length words ≡ input_words plant d)

abbrev GoodTurn : Plant → DevId → Turn → Type 0
GoodTurn plant d t = IsTurn t × (length t.input ≡ input_words plant d) × (length t.output ≡ output_words plant d)

if_own : {X : Type 0} (P : X → Type 0) (b : Bool) (x : X) → (b ≡ true → P x) → AllByRecursion P (if b then x ∷ [] else [])
if_own P true x own = (own refl, tt)
if_own P false x own = tt

takes_good : (plant : Plant) (d : DevId) (l : Line) → IsRightLine plant l → AllByRecursion (GoodTake plant d) (takes_in d.0 l)
takes_good plant d (says.Take k e g) right =
    if_own (GoodTake plant d) (e.0 == d.0) g (λ same. (right.2, right.3 ∙ ap (λ (n : ℕ). output_words plant (device n)) (equal e.0 d.0 same)))
  where
    device : ℕ → DevId
    device n = record { 0 = n }
takes_good plant d (says.Row r) right = tt
takes_good plant d (says.Image k e words) right = tt
takes_good plant d (says.Turn e number t) right = tt
takes_good plant d (says.Last a b c x) right = tt

images_good : (plant : Plant) (d : DevId) (l : Line) → IsRightLine plant l → AllByRecursion (GoodImage plant d) (images_in d.0 l)
images_good plant d (says.Take k e g) right = tt
images_good plant d (says.Row r) right = tt
images_good plant d (says.Image k e words) right =
    if_own (GoodImage plant d) (e.0 == d.0) words (λ same. (right.2, right.3 ∙ ap (λ (n : ℕ). input_words plant (device n)) (equal e.0 d.0 same)))
  where
    device : ℕ → DevId
    device n = record { 0 = n }
images_good plant d (says.Turn e number t) right = tt
images_good plant d (says.Last a b c x) right = tt

turns_good : (plant : Plant) (d : DevId) (l : Line) → IsRightLine plant l → AllByRecursion (GoodTurn plant d) (turns_in d.0 l)
turns_good plant d (says.Take k e g) right = tt
turns_good plant d (says.Row r) right = tt
turns_good plant d (says.Image k e words) right = tt
turns_good plant d (says.Turn e number t) right =
    if_own (GoodTurn plant d) (e.0 == d.0) t
    (λ same. (right.2, right.3 ∙ ap (λ (n : ℕ). input_words plant (device n)) (equal e.0 d.0 same), right.4 ∙ ap (λ (n : ℕ). output_words plant (device n)) (equal e.0 d.0 same)))
  where
    device : ℕ → DevId
    device n = record { 0 = n }
turns_good plant d (says.Last a b c x) right = tt

rows_good : (plant : Plant) (l : Line) → IsRightLine plant l → AllByRecursion (IsRowOf plant (2 ^ 32)) (rows_in l)
rows_good plant (says.Take k e g) right = tt
rows_good plant (says.Row r) right = (right, tt)
rows_good plant (says.Image k e words) right = tt
rows_good plant (says.Turn e number t) right = tt
rows_good plant (says.Last a b c x) right = tt

weaker : {X : Type 0} (P Q : X → Type 0) (xs : List X) → AllByRecursion P xs → ((x : X) → P x → Q x) → AllByRecursion Q xs
weaker P Q [] all each = tt
weaker P Q (x ∷ xs) all each = (each x all.0, weaker P Q xs all.1 each)

bounded_rows : (plant : Plant) (cycles : ℕ) (rows : List JournalRow) → AllByRecursion (IsRowOf plant (2 ^ 32)) rows → Before cycles rows → AllByRecursion (IsRowOf plant cycles) rows
bounded_rows plant cycles [] all before = tt
bounded_rows plant cycles (s ∷ rows) all before = (record { cycle = before.0; device = all.0.device; range = all.0.range }, bounded_rows plant cycles rows all.1 before.1)

-- ---- rows in order stand by cycle

from_first : (s : JournalRow) (rows : List JournalRow) → StandInOrder (s ∷ rows) → AllByRecursion (λ (t : JournalRow). cycle_of s ≤ cycle_of t) rows
from_first s [] order = tt
from_first s (t ∷ rows) order =
    let here = cycle_up_to s t order.0 in
    (here, weaker (λ (u : JournalRow). cycle_of t ≤ cycle_of u) (λ (u : JournalRow). cycle_of s ≤ cycle_of u) rows (from_first t rows order.1) (λ u more. omega (arith, here, more)))

order_tail : (s : JournalRow) (rows : List JournalRow) → StandInOrder (s ∷ rows) → StandInOrder rows
order_tail s [] order = tt
order_tail s (t ∷ rows) order = order.1

by_cycle : (rows : List JournalRow) → StandInOrder rows → StandByCycle rows
by_cycle [] order = λ i j d before below. absurd (omega (arith, below))
by_cycle (s ∷ rows) order =
    AllPairs-cons (λ (r s : JournalRow). cycle_of r ≤ cycle_of s) s rows
    (All-from_recursion (λ (t : JournalRow). cycle_of s ≤ cycle_of t) rows (from_first s rows order)) (by_cycle rows (order_tail s rows order))

-- ---- a whole record

-- the logs that lines say, one by one
logs_good : (plant : Plant) (cycles : ℕ) (lines : List Line) (apps : List App) → AllByRecursion (IsRightLine plant) lines →
    ((m : ℕ) (l : AppLog) → slice_get (map (λ (a : App). log_in lines a.device.0) apps) m ≡ Some l → (length l.takes ≡ cycles) × (length l.images ≡ cycles) × (length l.turns < 2 ^ 64)) →
    AllByRecursion (IsLogOf cycles) (map (λ (a : App). log_in lines a.device.0) apps) × AllByRecursion (HasWordCounts plant) (zip apps (map (λ (a : App). log_in lines a.device.0) apps))
logs_good plant cycles lines [] right counts = (tt, tt)
logs_good plant cycles lines (a ∷ apps) right counts =
    let (takes, images, turns) = counts 0 (log_in lines a.device.0) refl in
    let good_takes = All-each (GoodTake plant a.device) (IsRightLine plant) (takes_in a.device.0) lines right (takes_good plant a.device) in
    let good_images = All-each (GoodImage plant a.device) (IsRightLine plant) (images_in a.device.0) lines right (images_good plant a.device) in
    let good_turns = All-each (GoodTurn plant a.device) (IsRightLine plant) (turns_in a.device.0) lines right (turns_good plant a.device) in
    let rest = logs_good plant cycles lines apps right (λ m l is. counts (suc m) l is) in (
      (
        record {
          take_count = takes;
          takes = weaker (GoodTake plant a.device) IsTake (flat_map (takes_in a.device.0) lines) good_takes (λ g is. is.0);
          image_count = images;
          images = weaker (GoodImage plant a.device) AreWords (flat_map (images_in a.device.0) lines) good_images (λ words is. is.0);
          turn_count = turns;
          turns = weaker (GoodTurn plant a.device) IsTurn (flat_map (turns_in a.device.0) lines) good_turns (λ t is. is.0);
        },
        rest.0,
      ),
      (
        record {
          takes = weaker (GoodTake plant a.device) (λ (g : Given). length g.words ≡ output_words plant a.device) (flat_map (takes_in a.device.0) lines) good_takes (λ g is. is.1);
          images = weaker (GoodImage plant a.device) (λ (words : List ℕ). length words ≡ input_words plant a.device) (flat_map (images_in a.device.0) lines) good_images (λ words is. is.1);
          inputs = weaker (GoodTurn plant a.device) (λ (t : Turn). length t.input ≡ input_words plant a.device) (flat_map (turns_in a.device.0) lines) good_turns (λ t is. is.1);
          outputs = weaker (GoodTurn plant a.device) (λ (t : Turn). length t.output ≡ output_words plant a.device) (flat_map (turns_in a.device.0) lines) good_turns (λ t is. is.2);
        },
        rest.1,
      ),
    )

pub held_whole : (plant : Plant) (limit cycles : ℕ) (lines : List Line) → AllByRecursion (IsRightLine plant) lines → length (flat_map rows_in lines) < 2 ^ 64 →
    Held plant limit (Done cycles) (logs_in plant lines) (flat_map rows_in lines) lines → IsWholeRecord plant cycles (record_of (logs_in plant lines) (flat_map rows_in lines))
held_whole plant limit cycles lines right few held =
    let good = logs_good plant cycles lines plant.apps right (λ m l is. (held.shape.takes m l is, held.shape.images m l is, held.shape.turns m l is)) in
    record {
      fits = record {
        count = omega (arith, held.shape.bounds.1);
        app_count = held.shape.count;
        apps = good.0;
        row_count = few;
        rows = bounded_rows plant cycles (flat_map rows_in lines) (All-each (IsRowOf plant (2 ^ 32)) (IsRightLine plant) rows_in lines right (rows_good plant)) held.shape.before;
        order = by_cycle (flat_map rows_in lines) held.shape.order;
      };
      some = held.shape.bounds.0;
      few = held.shape.bounds.1;
      words = good.1;
      rows = held.shape.order;
    }

-- ---- the lines of a whole record are right

abbrev Fit : Plant → ℕ → App × AppLog → Type 0
Fit plant cycles p = IsApp plant p.0 × IsLogOf cycles p.1 × HasWordCounts plant p

apps_fit : (plant : Plant) (cycles : ℕ) (apps : List App) (logs : List AppLog) → AllByRecursion (IsApp plant) apps → AllByRecursion (IsLogOf cycles) logs →
    AllByRecursion (HasWordCounts plant) (zip apps logs) → AllByRecursion (Fit plant cycles) (zip apps logs)
apps_fit plant cycles [] logs fa fl fw = tt
apps_fit plant cycles (a ∷ apps) [] fa fl fw = tt
apps_fit plant cycles (a ∷ apps) (l ∷ logs) fa fl fw = ((fa.0, fl.0, fw.0), apps_fit plant cycles apps logs fa.1 fl.1 fw.1)

pair : {X : Type 0} (P Q : X → Type 0) (xs : List X) → AllByRecursion P xs → AllByRecursion Q xs → AllByRecursion (λ x. P x × Q x) xs
pair P Q [] p q = tt
pair P Q (x ∷ xs) p q = ((p.0, q.0), pair P Q xs p.1 q.1)

turns_right : (plant : Plant) (device : DevId) (number : ℕ) (ts : List Turn) → device.0 < length plant.devices → number + length ts < 2 ^ 64 → AllByRecursion (GoodTurn plant device) ts →
    AllByRecursion (IsRightLine plant) (of_turns one device number ts)
turns_right plant device number [] there short all = tt
turns_right plant device number (t ∷ ts) there short all =
    ((there, omega arith, all.0.0, all.0.1, all.0.2), turns_right plant device (number + 1) ts there (omega arith) all.1)

good_turns : (plant : Plant) (d : DevId) (ts : List Turn) → AllByRecursion IsTurn ts → AllByRecursion (λ (t : Turn). length t.input ≡ input_words plant d) ts →
    AllByRecursion (λ (t : Turn). length t.output ≡ output_words plant d) ts → AllByRecursion (GoodTurn plant d) ts
good_turns plant d [] a b c = tt
good_turns plant d (t ∷ ts) a b c = ((a.0, b.0, c.0), good_turns plant d ts a.1 b.1 c.1)

pub lines_right : (plant : Plant) (cycles : ℕ) (r : RunRecord JournalRow) → MeetsRules plant → IsWholeRecord plant cycles r → AllByRecursion (IsRightLine plant) (lines_of plant cycles r)
lines_right plant cycles r rules whole =
    All-more (IsRightLine plant) (of_cycles one plant cycles r) (of_all_turns one plant r.apps ++ last_of cycles r.journal ∷ [])
    (All-each (IsRightLine plant) (λ k. k < 0 + cycles) (λ k. of_cycle one plant r k) (range_with_len 0 cycles) (range_fit 0 cycles) in_cycle)
    (All-more (IsRightLine plant) (of_all_turns one plant r.apps) (last_of cycles r.journal ∷ [])
    (All-each (IsRightLine plant) (Fit plant cycles) (λ (p : App × AppLog). of_turns one p.0.device 0 p.1.turns) (zip plant.apps r.apps) apps
    (λ p fit. turns_right plant p.0.device 0 p.1.turns fit.0 (turn_count p.1 fit.1) (good_turns plant p.0.device p.1.turns fit.1.turns fit.2.inputs fit.2.outputs)))
    ((whole.fits.count, counted 111, counted 100, counted 120), tt))
  where
    turn_count : (log : AppLog) → IsLogOf cycles log → 0 + length log.turns < 2 ^ 64
    turn_count log fit = omega (arith, fit.turn_count)

    counted : (letter : ℕ) → lettered letter r.journal < 2 ^ 64
    counted letter = omega (arith, count_by-le-length (λ s. letter_of s == letter) r.journal, whole.fits.row_count)

    apps : AllByRecursion (Fit plant cycles) (zip plant.apps r.apps)
    apps = apps_fit plant cycles plant.apps r.apps rules.apps whole.fits.apps whole.words

    wide_row : (s : JournalRow) → IsRowOf plant cycles s → IsRowOf plant (2 ^ 32) s
    wide_row s is = record { cycle = omega (arith, is.cycle, whole.fits.count); device = is.device; range = is.range }

    in_cycle : (k : ℕ) → k < 0 + cycles → AllByRecursion (IsRightLine plant) (of_cycle one plant r k)
    in_cycle k early =
        let few : k < 2 ^ 32 = omega (arith, early, whole.fits.count) in
        All-more (IsRightLine plant) (of_takes one plant r.apps k) (of_rows one (rows_of_cycle k r.journal) ++ of_images one plant r.apps k)
        (All-each (IsRightLine plant) (Fit plant cycles) (λ (p : App × AppLog). at_place (λ g. one (says.Take k p.0.device g)) p.1.takes k) (zip plant.apps r.apps) apps
        (λ p fit. All-place (IsRightLine plant) (λ g. IsTake g × (length g.words ≡ output_words plant p.0.device)) (λ g. one (says.Take k p.0.device g)) p.1.takes k
        (pair IsTake (λ (g : Given). length g.words ≡ output_words plant p.0.device) p.1.takes fit.1.takes fit.2.takes) (λ g is. ((few, fit.0, is.0, is.1), tt))))
        (All-more (IsRightLine plant) (of_rows one (rows_of_cycle k r.journal)) (of_images one plant r.apps k)
        (All-each (IsRightLine plant) (IsRowOf plant cycles) (λ s. one (says.Row s)) (rows_of_cycle k r.journal) (rows_fit plant cycles k r.journal whole.fits.rows) (λ s is. (wide_row s is, tt)))
        (All-each (IsRightLine plant) (Fit plant cycles) (λ (p : App × AppLog). at_place (λ words. one (says.Image k p.0.device words)) p.1.images k) (zip plant.apps r.apps) apps
        (λ p fit. All-place (IsRightLine plant) (λ words. AreWords words × (length words ≡ input_words plant p.0.device)) (λ words. one (says.Image k p.0.device words)) p.1.images k
        (pair AreWords (λ (words : List ℕ). length words ≡ input_words plant p.0.device) p.1.images fit.1.images fit.2.images) (λ words is. ((few, fit.0, is.0, is.1), tt)))))
