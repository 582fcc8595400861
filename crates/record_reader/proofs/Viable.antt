-- From each place that lines lead to, some more lines lead to the end.
use Rattle.std.proofs.Common.{◌≡◌, ◌<◌, ◌≤◌, ◌+◌, ◌^◌, ◌==◌, ◌&&◌, ℕ, zero, suc, false, List, [], ◌∷◌, ◌++◌, length, map, drop, nat_lt, nat_le, Some, refl, sym, ◌∙◌, ap, arith, inl, inr}
use Rattle.std.specs.Prelude.{if◌then◌else◌, replicate, slice_get}
use Rattle.std.specs.List.{AllByRecursion, flat_map}
use Rattle.std.proofs.lemmas.Bool.{cases_lt}
use Rattle.std.proofs.lemmas.Bool.Decides.{nat_tests}
use Rattle.std.proofs.lemmas.Grind.{flat_map-append}
use Rattle.std.proofs.lemmas.List.Sums.{count_by-le-length}
use Rattle.std.proofs.lemmas.Option.{none-some}
use Rattle.cycle_rows.specs.declared.rows.JournalRow.{JournalRow}
use Rattle.io_buffers.specs.Given.{Given, given}
use Rattle.irt_base.specs.declared.limits.TheConstants.{MAX_CYCLES}
use Rattle.irt_base.specs.declared.plants.App.{App}
use Rattle.irt_base.specs.declared.plants.Plant.{Plant}
use Rattle.irt_trace.specs.Journal.{letter_of}
use Rattle.iso_rules.specs.Lockstep.{AppLog}
use Rattle.plant_rules.specs.Meets.{IsApp, MeetsRules}
use Rattle.record_laws.specs.Fitting.{AreWords, IsTake}
use Rattle.record_laws.specs.Lines.{at_place, last_of, rows_in}
use Rattle.record_laws.specs.declared.line.Line.{Line}
use Rattle.record_laws.specs.declared.line.Line.TheVariants as says
use Rattle.record_laws.proofs.LinesFit.{All-more, All-place}
use Rattle.record_text.specs.Text.{lettered}
use Rattle.record_reader.specs.Reading.{input_words, output_words}
use Rattle.record_reader.specs.Right.{IsRightLine}
use Rattle.record_reader.specs.Steps.{are_counts, run}
use Rattle.record_reader.specs.declared.place.Place.{Place}
use Rattle.record_reader.specs.declared.place.Place.TheVariants.{Takes, Rows, Images, Turns, Done}
use Rattle.record_reader.proofs.Added.{one}
use Rattle.record_reader.proofs.Complete.{last_run, no_rows_of_images, no_rows_of_takes, with_none}
use Rattle.record_reader.proofs.Runs.{From, Has, both, counts_pass, equals, first_images_run, gives, images_lines, images_run, run_append, takes_lines, takes_run, under, up_to}
use Rattle.record_reader.proofs.Shape.{IsInBounds}

-- ---- zeros for an app

no_words : (n : ℕ) → AreWords (replicate n 0)
no_words zero = tt
no_words (suc n) = (omega arith, no_words n)

length-zeros : {X : Type 0} (n : ℕ) (x : X) → length (replicate n x) ≡ n
length-zeros zero x = refl
length-zeros (suc n) x = ap (λ m. suc m) (length-zeros n x)

all_same : {X : Type 0} (P : X → Type 0) (n : ℕ) (x : X) → P x → AllByRecursion P (replicate n x)
all_same P zero x is = tt
all_same P (suc n) x is = (is, all_same P n x is)

abbrev zero_take : Plant → App → Given
zero_take plant a = given (record { number = 0; fresh = false; in_window = false }) (replicate (output_words plant a.device) 0)

abbrev zero_image : Plant → App → List ℕ
zero_image plant a = replicate (input_words plant a.device) 0

abbrev zero_log : Plant → ℕ → App → AppLog
zero_log plant k a = record { takes = replicate (suc k) (zero_take plant a); images = replicate (suc k) (zero_image plant a); turns = [] }

abbrev zero_logs : Plant → ℕ → List App → List AppLog
zero_logs plant k apps = map (zero_log plant k) apps

length-zero_logs : (plant : Plant) (k : ℕ) (apps : List App) → length (zero_logs plant k apps) ≡ length apps
length-zero_logs plant k [] = refl
length-zero_logs plant k (a ∷ apps) = ap (λ n. suc n) (length-zero_logs plant k apps)

zero_has_takes : (plant : Plant) (k : ℕ) (apps : List App) → Has (λ l. length l.takes) k (zero_logs plant k apps)
zero_has_takes plant k [] = tt
zero_has_takes plant k (a ∷ apps) = (omega (arith, length-zeros (suc k) (zero_take plant a)), zero_has_takes plant k apps)

zero_has_images : (plant : Plant) (k : ℕ) (apps : List App) → Has (λ l. length l.images) k (zero_logs plant k apps)
zero_has_images plant k [] = tt
zero_has_images plant k (a ∷ apps) = (omega (arith, length-zeros (suc k) (zero_image plant a)), zero_has_images plant k apps)

zero_takes_right : (plant : Plant) (k : ℕ) (apps : List App) → AllByRecursion (IsApp plant) apps → k < 2 ^ 32 → AllByRecursion (IsRightLine plant) (takes_lines k apps (zero_logs plant k apps))
zero_takes_right plant k [] all few = tt
zero_takes_right plant k (a ∷ apps) all few =
    All-more (IsRightLine plant) (at_place (λ g. one (says.Take k a.device g)) (replicate (suc k) (zero_take plant a)) k) (takes_lines k apps (zero_logs plant k apps))
    (All-place (IsRightLine plant) (λ g. IsTake g × (length g.words ≡ output_words plant a.device)) (λ g. one (says.Take k a.device g)) (replicate (suc k) (zero_take plant a)) k
    (all_same (λ g. IsTake g × (length g.words ≡ output_words plant a.device)) (suc k) (zero_take plant a)
    (record { number = omega arith; words = no_words (output_words plant a.device) }, length-zeros (output_words plant a.device) 0))
    (λ g is. ((few, all.0, is.0, is.1), tt))) (zero_takes_right plant k apps all.1 few)

zero_images_right : (plant : Plant) (k : ℕ) (apps : List App) → AllByRecursion (IsApp plant) apps → k < 2 ^ 32 → AllByRecursion (IsRightLine plant) (images_lines k apps (zero_logs plant k apps))
zero_images_right plant k [] all few = tt
zero_images_right plant k (a ∷ apps) all few =
    All-more (IsRightLine plant) (at_place (λ words. one (says.Image k a.device words)) (replicate (suc k) (zero_image plant a)) k) (images_lines k apps (zero_logs plant k apps))
    (All-place (IsRightLine plant) (λ words. AreWords words × (length words ≡ input_words plant a.device)) (λ words. one (says.Image k a.device words)) (replicate (suc k) (zero_image plant a)) k
    (all_same (λ words. AreWords words × (length words ≡ input_words plant a.device)) (suc k) (zero_image plant a) (no_words (input_words plant a.device), length-zeros (input_words plant a.device) 0))
    (λ words is. ((few, all.0, is.0, is.1), tt))) (zero_images_right plant k apps all.1 few)

-- ---- the apps from one on

apps_there : (apps : List App) (n m : ℕ) (a : App) → slice_get (drop n apps) m ≡ Some a → slice_get apps (n + m) ≡ Some a
apps_there [] zero m a is = absurd (none-some a is)
apps_there [] (suc n) m a is = absurd (none-some a is)
apps_there (b ∷ apps) zero m a is = ap (slice_get (b ∷ apps)) (plain m) ∙ is
  where
    plain : (m : ℕ) → 0 + m ≡ m
    plain m = omega arith
apps_there (b ∷ apps) (suc n) m a is = ap (slice_get (b ∷ apps)) (shift n m) ∙ apps_there apps n m a is
  where
    shift : (n m : ℕ) → suc n + m ≡ suc (n + m)
    shift n m = omega arith

apps_left : (apps : List App) (n : ℕ) → n ≤ length apps → n + length (drop n apps) ≡ length apps
apps_left [] zero within = refl
apps_left [] (suc n) within = absurd (omega arith)
apps_left (a ∷ apps) zero within = plain (length (a ∷ apps))
  where
    plain : (m : ℕ) → 0 + m ≡ m
    plain m = omega arith
apps_left (a ∷ apps) (suc n) within = omega (arith, apps_left apps n (omega arith))

rest_apps : (plant : Plant) (apps : List App) (n : ℕ) → AllByRecursion (IsApp plant) apps → AllByRecursion (IsApp plant) (drop n apps)
rest_apps plant [] zero all = tt
rest_apps plant [] (suc n) all = tt
rest_apps plant (a ∷ apps) zero all = all
rest_apps plant (a ∷ apps) (suc n) all = rest_apps plant apps n all.1

from_rest : (plant : Plant) (n : ℕ) → n ≤ length plant.apps → From plant n (drop n plant.apps)
from_rest plant n within = ((λ m a is. apps_there plant.apps n m a is), apps_left plant.apps n within)

-- ---- to the end

-- more lines that lead to the end, without rows
pub record Ending (plant : Plant) (rows : List JournalRow) (place : Place) : Type 0 where
  pub cycles : ℕ
  pub lines : List Line
  pub right : AllByRecursion (IsRightLine plant) lines
  pub ran : run plant rows place lines ≡ Some (Done cycles)
  pub none : flat_map rows_in lines ≡ []

last_right : (plant : Plant) (cycles : ℕ) (rows : List JournalRow) → cycles ≤ MAX_CYCLES → length rows < 2 ^ 64 → IsRightLine plant (last_of cycles rows)
last_right plant cycles rows few short = (omega arith, counted 111, counted 100, counted 120)
  where
    counted : (letter : ℕ) → lettered letter rows < 2 ^ 64
    counted letter = omega (arith, count_by-le-length (λ s. letter_of s == letter) rows)

end_turns : (plant : Plant) (rows : List JournalRow) (cycles n number : ℕ) → cycles ≤ MAX_CYCLES → length rows < 2 ^ 64 → Ending plant rows (Turns cycles n number)
end_turns plant rows cycles n number few short =
    record {
      cycles = cycles;
      lines = last_of cycles rows ∷ [];
      right = (last_right plant cycles rows few short, tt);
      ran = last_run plant rows (Turns cycles n number) cycles
          (gives ((cycles == cycles) && are_counts rows (lettered 111 rows) (lettered 100 rows) (lettered 120 rows)) (Done cycles)
          (both (cycles == cycles) (are_counts rows (lettered 111 rows) (lettered 100 rows) (lettered 120 rows)) (equals cycles cycles refl) (counts_pass rows)));
      none = refl;
    }

-- lines without rows, and then more
longer : (plant : Plant) (rows : List JournalRow) (place there : Place) (lines : List Line) → AllByRecursion (IsRightLine plant) lines → flat_map rows_in lines ≡ [] →
    run plant rows place lines ≡ Some there → Ending plant rows there → Ending plant rows place
longer plant rows place there lines right none ran end =
    record {
      cycles = end.cycles;
      lines = lines ++ end.lines;
      right = All-more (IsRightLine plant) lines end.lines right end.right;
      ran = run_append plant rows place there lines end.lines ran ∙ (ap (λ rs. run plant rs there end.lines) (with_none rows lines none) ∙ end.ran);
      none = flat_map-append rows_in lines end.lines ∙ (λ i. none i ++ end.none i);
    }

end_rows : (plant : Plant) (rows : List JournalRow) (k : ℕ) → MeetsRules plant → k < MAX_CYCLES → length rows < 2 ^ 64 → Ending plant rows (Rows k)
end_rows plant rows k rules few short =
    elim (cases_lt 0 (length plant.apps)) [
      | inl some ↦
          longer plant rows (Rows k) (Turns (k + 1) 0 0) (images_lines k plant.apps (zero_logs plant k plant.apps)) (zero_images_right plant k plant.apps rules.apps (omega arith))
          (no_rows_of_images k plant.apps (zero_logs plant k plant.apps))
          (first_images_run plant rows k (zero_logs plant k plant.apps) few some (length-zero_logs plant k plant.apps) (zero_has_images plant k plant.apps)) (end_turns plant rows (k + 1) 0 0 (omega arith) short)
      | inr none ↦ bare (omega arith)
    ]
  where
    bare : length plant.apps ≡ 0 → Ending plant rows (Rows k)
    bare none = record {
      cycles = k + 1;
      lines = last_of (k + 1) rows ∷ [];
      right = (last_right plant (k + 1) rows (omega arith) short, tt);
      ran = last_run plant rows (Rows k) (k + 1)
          (gives ((length plant.apps == 0) && (nat_lt k (k + 1) && (nat_le (k + 1) MAX_CYCLES && are_counts rows (lettered 111 rows) (lettered 100 rows) (lettered 120 rows)))) (Done (k + 1))
          (both (length plant.apps == 0) (nat_lt k (k + 1) && (nat_le (k + 1) MAX_CYCLES && are_counts rows (lettered 111 rows) (lettered 100 rows) (lettered 120 rows))) (equals (length plant.apps) 0 none)
          (both (nat_lt k (k + 1)) (nat_le (k + 1) MAX_CYCLES && are_counts rows (lettered 111 rows) (lettered 100 rows) (lettered 120 rows)) (under k (k + 1) (omega arith))
          (both (nat_le (k + 1) MAX_CYCLES) (are_counts rows (lettered 111 rows) (lettered 100 rows) (lettered 120 rows)) (up_to (k + 1) MAX_CYCLES (omega arith)) (counts_pass rows)))));
      none = refl;
    }

open_place : (m n : ℕ) → m < n → (m == n) ≡ false
open_place m n below = grind (arith, nat_tests)

pub ending_from : (plant : Plant) (rows : List JournalRow) (place : Place) → MeetsRules plant → IsInBounds (length plant.apps) place → length rows < 2 ^ 64 → Ending plant rows place
ending_from plant rows (Done cycles) rules bounds short = record { cycles = cycles; lines = []; right = tt; ran = refl; none = refl }
ending_from plant rows (Turns cycles n number) rules bounds short = end_turns plant rows cycles n number bounds.1 short
ending_from plant rows (Rows k) rules bounds short = end_rows plant rows k rules bounds short
ending_from plant rows (Images k n) rules bounds short =
    longer plant rows (Images k n) (Turns (k + 1) 0 0) (images_lines k (drop n plant.apps) (zero_logs plant k (drop n plant.apps)))
    (zero_images_right plant k (drop n plant.apps) (rest_apps plant plant.apps n rules.apps) (omega (arith, bounds.0))) (no_rows_of_images k (drop n plant.apps) (zero_logs plant k (drop n plant.apps)))
    (ap (λ b. run plant rows (if b then Turns (k + 1) 0 0 else Images k n) (images_lines k (drop n plant.apps) (zero_logs plant k (drop n plant.apps)))) (sym (open_place n (length plant.apps) bounds.2))
    ∙ images_run plant rows k n (drop n plant.apps) (zero_logs plant k (drop n plant.apps)) bounds.0 (from_rest plant n (omega (arith, bounds.2))) (length-zero_logs plant k (drop n plant.apps))
    (zero_has_images plant k (drop n plant.apps))) (end_turns plant rows (k + 1) 0 0 (omega (arith, bounds.0)) short)
ending_from plant rows (Takes k n) rules bounds short =
    longer plant rows (Takes k n) (Rows k) (takes_lines k (drop n plant.apps) (zero_logs plant k (drop n plant.apps)))
    (zero_takes_right plant k (drop n plant.apps) (rest_apps plant plant.apps n rules.apps) (omega (arith, bounds.0))) (no_rows_of_takes k (drop n plant.apps) (zero_logs plant k (drop n plant.apps)))
    (ap (λ b. run plant rows (if b then Rows k else Takes k n) (takes_lines k (drop n plant.apps) (zero_logs plant k (drop n plant.apps)))) (sym (open_place n (length plant.apps) bounds.1))
    ∙ takes_run plant rows k n (drop n plant.apps) (zero_logs plant k (drop n plant.apps)) (from_rest plant n (omega (arith, bounds.1))) (length-zero_logs plant k (drop n plant.apps))
    (zero_has_takes plant k (drop n plant.apps))) (end_rows plant rows k rules bounds.0 short)
