-- Each line of a record that fits a plant is a line of one.
use Rattle.std.proofs.Common.{◌≡◌, ◌<◌, ◌+◌, ◌^◌, ℕ, zero, suc, List, [], ◌∷◌, ◌++◌, length, subst, arith, ◌==◌, inl, inr}
use Rattle.std.proofs.lemmas.Bool.{cases_Bool}
use Rattle.std.specs.Prelude.{zip}
use Rattle.std.specs.List.{AllByRecursion, flat_map, range_with_len}
use Rattle.std.proofs.lemmas.List.Sums.{count_by-le-length}
use Rattle.cycle_rows.specs.Rows.{cycle_of}
use Rattle.cycle_rows.specs.declared.rows.JournalRow.{JournalRow}
use Rattle.irt_base.specs.declared.numbers.DevId.{DevId}
use Rattle.irt_base.specs.declared.plants.App.{App}
use Rattle.irt_base.specs.declared.plants.Plant.{Plant}
use Rattle.irt_trace.specs.Journal.{letter_of}
use Rattle.iso_rules.specs.Lockstep.{AppLog, RunRecord}
use Rattle.iso_rules.specs.declared.turn.Turn.{Turn}
use Rattle.plant_rules.specs.Meets.{IsApp, MeetsRules}
use Rattle.record_text.specs.Text.{lettered, rows_of_cycle}
use Rattle.record_laws.specs.Fitting.{AreWords, IsLogOf, IsRecordOf, IsRowOf, IsTake, IsTurn}
use Rattle.record_laws.specs.Lines.{at_place, of_turns, of_takes, of_images, of_rows, of_cycle, of_cycles, of_all_turns, last_of, lines_of}
use Rattle.record_laws.specs.declared.line.Line.TheVariants as says
use Rattle.record_laws.proofs.LineCut.{FitLine}

pub All-more : {X : Type 0} (P : X → Type 0) (xs ys : List X) → AllByRecursion P xs → AllByRecursion P ys → AllByRecursion P (xs ++ ys)
All-more P [] ys all more = more
All-more P (x ∷ xs) ys all more = (all.0, All-more P xs ys all.1 more)

pub All-each : {X Y : Type 0} (P : Y → Type 0) (Q : X → Type 0) (f : X → List Y) (xs : List X) → AllByRecursion Q xs → ((x : X) → Q x → AllByRecursion P (f x)) →
    AllByRecursion P (flat_map f xs)
All-each P Q f [] all each = tt
All-each P Q f (x ∷ xs) all each = All-more P (f x) (flat_map f xs) (each x all.0) (All-each P Q f xs all.1 each)

pub All-place : {X Y : Type 0} (P : Y → Type 0) (Q : X → Type 0) (f : X → List Y) (xs : List X) (k : ℕ) → AllByRecursion Q xs → ((x : X) → Q x → AllByRecursion P (f x)) →
    AllByRecursion P (at_place f xs k)
All-place P Q f [] k all each = tt
All-place P Q f (x ∷ xs) zero all each = each x all.0
All-place P Q f (x ∷ xs) (suc k) all each = All-place P Q f xs k all.1 each

-- an app of the plant and what a record has of it
abbrev Fit : Plant → ℕ → App × AppLog → Type 0
Fit plant cycles p = IsApp plant p.0 × IsLogOf cycles p.1

apps_fit : (plant : Plant) (cycles : ℕ) (apps : List App) (logs : List AppLog) → AllByRecursion (IsApp plant) apps → AllByRecursion (IsLogOf cycles) logs →
    AllByRecursion (Fit plant cycles) (zip apps logs)
apps_fit plant cycles [] logs fa fl = tt
apps_fit plant cycles (a ∷ apps) [] fa fl = tt
apps_fit plant cycles (a ∷ apps) (l ∷ logs) fa fl = ((fa.0, fl.0), apps_fit plant cycles apps logs fa.1 fl.1)

pub range_fit : (a n : ℕ) → AllByRecursion (λ k. k < a + n) (range_with_len a n)
range_fit a zero = tt
range_fit a (suc n) = (omega arith, subst (λ m. AllByRecursion (λ k. k < m) (range_with_len (a + 1) n)) (next a n) (range_fit (a + 1) n))
  where
    next : (a n : ℕ) → a + 1 + n ≡ a + suc n
    next a n = omega arith

turns_fit : (plant : Plant) (cycles : ℕ) (device : DevId) (number : ℕ) (ts : List Turn) → cycles < 2 ^ 64 → device.0 < length plant.devices → number + length ts < 2 ^ 64 → AllByRecursion IsTurn ts →
    AllByRecursion (FitLine plant cycles) (of_turns (λ line. line ∷ []) device number ts)
turns_fit plant cycles device number [] few there short all = tt
turns_fit plant cycles device number (t ∷ ts) few there short all =
    ((few, (there, omega arith, all.0)), turns_fit plant cycles device (number + 1) ts few there (omega arith) all.1)

pub rows_fit : (plant : Plant) (cycles k : ℕ) (rows : List JournalRow) → AllByRecursion (IsRowOf plant cycles) rows → AllByRecursion (IsRowOf plant cycles) (rows_of_cycle k rows)
rows_fit plant cycles k [] all = tt
rows_fit plant cycles k (r ∷ rows) all =
    elim (cases_Bool (cycle_of r == k)) [
      | inl here ↦ rw here (all.0, rows_fit plant cycles k rows all.1)
      | inr other ↦ rw other (rows_fit plant cycles k rows all.1)
    ]

pub lines_fit : (plant : Plant) (cycles : ℕ) (r : RunRecord JournalRow) → MeetsRules plant → IsRecordOf plant cycles r →
    AllByRecursion (FitLine plant cycles) (lines_of plant cycles r)
lines_fit plant cycles r rules fits =
    All-more (FitLine plant cycles) (of_cycles (λ line. line ∷ []) plant cycles r) (of_all_turns (λ line. line ∷ []) plant r.apps ++ last_of cycles r.journal ∷ [])
    (All-each (FitLine plant cycles) (λ k. k < 0 + cycles) (λ k. of_cycle (λ line. line ∷ []) plant r k) (range_with_len 0 cycles) (range_fit 0 cycles) in_cycle)
    (All-more (FitLine plant cycles) (of_all_turns (λ line. line ∷ []) plant r.apps) (last_of cycles r.journal ∷ [])
    (All-each (FitLine plant cycles) (Fit plant cycles) (λ (p : App × AppLog). of_turns (λ line. line ∷ []) p.0.device 0 p.1.turns) (zip plant.apps r.apps) apps
    (λ p fit. turns_fit plant cycles p.0.device 0 p.1.turns few fit.0 (turn_count p.1 fit.1) fit.1.turns))
    ((few, (fits.count, counted 111, counted 100, counted 120)), tt))
  where
    few : cycles < 2 ^ 64
    few = omega (arith, fits.count)

    turn_count : (log : AppLog) → IsLogOf cycles log → 0 + length log.turns < 2 ^ 64
    turn_count log fit = omega (arith, fit.turn_count)

    counted : (letter : ℕ) → lettered letter r.journal < 2 ^ 64
    counted letter = omega (arith, count_by-le-length (λ s. letter_of s == letter) r.journal, fits.row_count)

    apps : AllByRecursion (Fit plant cycles) (zip plant.apps r.apps)
    apps = apps_fit plant cycles plant.apps r.apps rules.apps fits.apps

    in_cycle : (k : ℕ) → k < 0 + cycles → AllByRecursion (FitLine plant cycles) (of_cycle (λ line. line ∷ []) plant r k)
    in_cycle k early =
        let below : k < cycles = omega arith in
        All-more (FitLine plant cycles) (of_takes (λ line. line ∷ []) plant r.apps k) (of_rows (λ line. line ∷ []) (rows_of_cycle k r.journal) ++ of_images (λ line. line ∷ []) plant r.apps k)
        (All-each (FitLine plant cycles) (Fit plant cycles) (λ (p : App × AppLog). at_place (λ g. says.Take k p.0.device g ∷ []) p.1.takes k) (zip plant.apps r.apps) apps
        (λ p fit. All-place (FitLine plant cycles) IsTake (λ g. says.Take k p.0.device g ∷ []) p.1.takes k fit.1.takes (λ g is. ((few, (below, fit.0, is)), tt))))
        (All-more (FitLine plant cycles) (of_rows (λ line. line ∷ []) (rows_of_cycle k r.journal)) (of_images (λ line. line ∷ []) plant r.apps k)
        (All-each (FitLine plant cycles) (IsRowOf plant cycles) (λ s. says.Row s ∷ []) (rows_of_cycle k r.journal) (rows_fit plant cycles k r.journal fits.rows) (λ s is. ((few, is), tt)))
        (All-each (FitLine plant cycles) (Fit plant cycles) (λ (p : App × AppLog). at_place (λ words. says.Image k p.0.device words ∷ []) p.1.images k) (zip plant.apps r.apps) apps
        (λ p fit. All-place (FitLine plant cycles) AreWords (λ words. says.Image k p.0.device words ∷ []) p.1.images k fit.1.images (λ words is. ((few, (below, fit.0, is)), tt)))))
