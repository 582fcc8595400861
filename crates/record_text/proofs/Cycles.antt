-- The rows of a cycle stand from one cursor to the next.
use Rattle.std.proofs.Common.{◌≡◌, ◌+◌, ◌-◌, ◌≤◌, ◌<◌, ◌==◌, ◌++◌, ◌∷◌, [], ℕ, zero, suc, Bool, true, false, cond, List, length, take, drop, refl, sym, ◌∙◌, ap, subst, arith, All}
use Rattle.std.specs.Prelude.{filter}
use Rattle.std.specs.List.{flat_map, range_with_len, slice_range}
use Rattle.std.proofs.lemmas.Bool.Decides.{nat_tests}
use Rattle.std.proofs.lemmas.Grind.{flat_map-append}
use Rattle.std.proofs.lemmas.List.{append-nil, append_assoc, drop-drop, take-append-drop}
use Rattle.std.proofs.lemmas.List.Elements.{All-nil, All-cons, All-head, All-tail, All-take, All-drop, All-weaker, filter-append}
use Rattle.std.proofs.lemmas.List.Folds.{drop_split}
use Rattle.irt_base.specs.declared.plants.Plant.{Plant}
use Rattle.cycle_rows.specs.Rows.{cycle_of}
use Rattle.cycle_rows.specs.declared.rows.JournalRow.{JournalRow}
use Rattle.cycle_rows.proofs.Lists.{AllPairs-head, AllPairs-tail}
use Rattle.iso_rules.specs.Lockstep.{AppLog}
use Rattle.record_text.specs.Cursor.{IsCursor, is_row_of}
use Rattle.record_text.specs.Text.{StandByCycle, cycle_text, cycles_text, rows_of_cycle}

passes : (a k : ℕ) → a ≡ k → (a == k) ≡ true
passes a k h = grind (arith, nat_tests)

equal : (a k : ℕ) → (a == k) ≡ true → a ≡ k
equal a k h = grind (arith, nat_tests)

fails_below : (a k : ℕ) → a < k → (a == k) ≡ false
fails_below a k h = grind (arith, nat_tests)

fails_above : (a k : ℕ) → k + 1 ≤ a → (a == k) ≡ false
fails_above a k h = grind (arith, nat_tests)

above : (a k : ℕ) → k ≤ a → (a == k) ≡ false → k + 1 ≤ a
above a k h e = grind (arith, nat_tests)

-- ---- a step of the cursor

row_more : (P : JournalRow → Type 0) (rows : List JournalRow) (at k : ℕ) → ((r : JournalRow) → cycle_of r ≡ k → P r) →
    is_row_of rows at k ≡ true → All P (take at rows) → All P (take (suc at) rows) × (at < length rows)
row_more P [] at k each e all = absurd (cc)
row_more P (x ∷ xs) zero k each e all = (All-cons P x [] (each x (equal (cycle_of x) k e)) (All-nil P), omega arith)
row_more P (x ∷ xs) (suc at) k each e all =
    let more = row_more P xs at k each e (All-tail P x (take at xs) all) in
    (All-cons P x (take (suc at) xs) (All-head P x (take at xs) all) more.0, omega (arith, more.1))

pub row_on : (rows : List JournalRow) (at k : ℕ) → is_row_of rows at k ≡ true → All (λ (r : JournalRow). cycle_of r < k + 1) (take at rows) →
    All (λ (r : JournalRow). cycle_of r < k + 1) (take (at + 1) rows) × (at + 1 ≤ length rows)
row_on rows at k e all =
    let more = row_more (λ (r : JournalRow). cycle_of r < k + 1) rows at k (λ r is. omega (arith, is)) e all in
    (subst (λ n. All (λ (r : JournalRow). cycle_of r < k + 1) (take n rows)) (next at) more.0, omega (arith, more.1))
  where
    next : (at : ℕ) → suc at ≡ at + 1
    next at = omega arith

rest_above : (rows : List JournalRow) (at k : ℕ) → StandByCycle rows → All (λ (r : JournalRow). k ≤ cycle_of r) (drop at rows) →
    is_row_of rows at k ≡ false → All (λ (r : JournalRow). k + 1 ≤ cycle_of r) (drop at rows)
rest_above [] zero k order all e = All-nil (λ (r : JournalRow). k + 1 ≤ cycle_of r)
rest_above [] (suc at) k order all e = All-nil (λ (r : JournalRow). k + 1 ≤ cycle_of r)
rest_above (x ∷ xs) zero k order all e =
    let here : k + 1 ≤ cycle_of x = above (cycle_of x) k (All-head (λ (r : JournalRow). k ≤ cycle_of r) x xs all) e in
    All-cons (λ (r : JournalRow). k + 1 ≤ cycle_of r) x xs here
    (All-weaker (λ (r : JournalRow). cycle_of x ≤ cycle_of r) (λ (r : JournalRow). k + 1 ≤ cycle_of r) (λ r h. omega (arith, here, h)) xs
    (AllPairs-head (λ (r s : JournalRow). cycle_of r ≤ cycle_of s) x xs order))
rest_above (x ∷ xs) (suc at) k order all e =
    rest_above xs at k (AllPairs-tail (λ (r s : JournalRow). cycle_of r ≤ cycle_of s) x xs order) all e

-- where no row of the cycle follows, the next cycle begins
pub next_cursor : (rows : List JournalRow) (from at k : ℕ) → StandByCycle rows → IsCursor rows k from → from ≤ at → at ≤ length rows →
    All (λ (r : JournalRow). cycle_of r < k + 1) (take at rows) → is_row_of rows at k ≡ false → IsCursor rows (k + 1) at
next_cursor rows from at k order cursor later within before e = record {
  within = within;
  before = before;
  after = rest_above rows at k order
      (subst (λ n. All (λ (r : JournalRow). k ≤ cycle_of r) (drop n rows)) (the_place from at later)
      (subst (All (λ (r : JournalRow). k ≤ cycle_of r)) (drop-drop (at - from) from rows)
      (All-drop (λ (r : JournalRow). k ≤ cycle_of r) (at - from) (drop from rows) cursor.after))) e;
}
  where
    the_place : (a b : ℕ) → a ≤ b → a + (b - a) ≡ b
    the_place a b h = omega arith

pub first_cursor : (rows : List JournalRow) → IsCursor rows 0 0
first_cursor rows = record {
  within = omega arith;
  before = All-nil (λ (r : JournalRow). cycle_of r < 0);
  after = λ i d below. omega arith;
}

-- ---- the rows between two cursors

kept : (k : ℕ) (rows : List JournalRow) → All (λ (r : JournalRow). cycle_of r ≡ k) rows → rows_of_cycle k rows ≡ rows
kept k [] all = refl
kept k (x ∷ xs) all =
    let here = passes (cycle_of x) k (All-head (λ (r : JournalRow). cycle_of r ≡ k) x xs all) in
    let rest = kept k xs (All-tail (λ (r : JournalRow). cycle_of r ≡ k) x xs all) in
    ap (λ b. cond b (x ∷ rows_of_cycle k xs) (rows_of_cycle k xs)) here ∙ ap (λ ys. x ∷ ys) rest

dropped : (k : ℕ) (rows : List JournalRow) → All (λ (r : JournalRow). (cycle_of r == k) ≡ false) rows → rows_of_cycle k rows ≡ []
dropped k [] all = refl
dropped k (x ∷ xs) all =
    ap (λ b. cond b (x ∷ rows_of_cycle k xs) (rows_of_cycle k xs)) (All-head (λ (r : JournalRow). (cycle_of r == k) ≡ false) x xs all)
    ∙ dropped k xs (All-tail (λ (r : JournalRow). (cycle_of r == k) ≡ false) x xs all)

no_more : (t n : ℕ) → t ≡ 0 + n → t ≡ n
no_more t n e = omega arith

one_less : (t m n : ℕ) → suc t ≡ suc m + n → t ≡ m + n
one_less t m n e = omega arith

All-front : {X : Type 0} (P : X → Type 0) (xs : List X) (m n t : ℕ) → t ≡ m + n → All P (take t xs) → All P (take n (drop m xs))
All-front P xs zero n t e all = subst (λ j. All P (take j xs)) (no_more t n e) all
All-front P [] (suc m) zero t e all = All-nil P
All-front P [] (suc m) (suc n) t e all = All-nil P
All-front P (x ∷ xs) (suc m) n zero e all = absurd (omega arith)
All-front P (x ∷ xs) (suc m) n (suc t) e all = All-front P xs m n t (one_less t m n e) (All-tail P x (take t xs) all)

pub rows_between : (rows : List JournalRow) (k at end : ℕ) → IsCursor rows k at → IsCursor rows (k + 1) end → at ≤ end →
    rows_of_cycle k rows ≡ slice_range rows at end
rows_between rows k at end from to later =
    ap (rows_of_cycle k) parts ∙ (filter-append test (take at rows) (middle ++ drop end rows) ∙
    ((λ i. early i ++ filter test (middle ++ drop end rows)) ∙ (filter-append test middle (drop end rows) ∙
    ((λ i. here i ++ late i) ∙ append-nil middle))))
  where
    test : JournalRow → Bool
    test r = cycle_of r == k

    middle : List JournalRow
    middle = slice_range rows at end

    parts : rows ≡ take at rows ++ (middle ++ drop end rows)
    parts = sym (take-append-drop at rows) ∙ ap (λ xs. take at rows ++ xs) (drop_split rows at end later)

    early : filter test (take at rows) ≡ []
    early = dropped k (take at rows)
        (All-weaker (λ (r : JournalRow). cycle_of r < k) (λ (r : JournalRow). (cycle_of r == k) ≡ false)
        (λ r h. fails_below (cycle_of r) k h) (take at rows) from.before)

    late : filter test (drop end rows) ≡ []
    late = dropped k (drop end rows)
        (All-weaker (λ (r : JournalRow). k + 1 ≤ cycle_of r) (λ (r : JournalRow). (cycle_of r == k) ≡ false)
        (λ r h. fails_above (cycle_of r) k h) (drop end rows) to.after)

    the_place : end ≡ at + (end - at)
    the_place = omega arith

    low : All (λ (r : JournalRow). k ≤ cycle_of r) middle
    low = All-take (λ (r : JournalRow). k ≤ cycle_of r) (end - at) (drop at rows) from.after

    high : All (λ (r : JournalRow). cycle_of r < k + 1) middle
    high = All-front (λ (r : JournalRow). cycle_of r < k + 1) rows at (end - at) end the_place to.before

    here : filter test middle ≡ middle
    here = kept k middle (λ i d below. let one = low i d below in let two = high i d below in omega (arith, one, two))

-- ---- one cycle more

range_more : (a n : ℕ) → range_with_len a (suc n) ≡ range_with_len a n ++ (a + n) ∷ []
range_more a zero = ap (λ x. x ∷ []) (plus_none a)
  where
    plus_none : (a : ℕ) → a ≡ a + 0
    plus_none a = omega arith
range_more a (suc n) = ap (λ xs. a ∷ xs) (range_more (a + 1) n ∙ ap (λ x. range_with_len (a + 1) n ++ x ∷ []) (plus_more a n))
  where
    plus_more : (a n : ℕ) → a + 1 + n ≡ a + suc n
    plus_more a n = omega arith

up_to : (k : ℕ) → range_with_len 0 (k + 1) ≡ range_with_len 0 k ++ k ∷ []
up_to k = ap (range_with_len 0) (next k) ∙ (range_more 0 k ∙ ap (λ x. range_with_len 0 k ++ x ∷ []) (same k))
  where
    next : (k : ℕ) → k + 1 ≡ suc k
    next k = omega arith

    same : (k : ℕ) → 0 + k ≡ k
    same k = omega arith

pub cycle_on : (plant : Plant) (apps : List AppLog) (journal : List JournalRow) (k at end : ℕ) (first old new : List ℕ) →
    old ≡ first ++ cycles_text plant apps journal k → new ≡ old ++ cycle_text plant apps k (slice_range journal at end) →
    IsCursor journal k at → IsCursor journal (k + 1) end → at ≤ end → new ≡ first ++ cycles_text plant apps journal (k + 1)
cycle_on plant apps journal k at end first old new so_far written from to later =
    written ∙ (ap (λ xs. xs ++ cycle_text plant apps k (slice_range journal at end)) so_far ∙
    (append_assoc first (cycles_text plant apps journal k) (cycle_text plant apps k (slice_range journal at end)) ∙
    ap (λ xs. first ++ xs) (sym whole)))
  where
    one : ℕ → List ℕ
    one n = cycle_text plant apps n (rows_of_cycle n journal)

    last : flat_map one (k ∷ []) ≡ cycle_text plant apps k (slice_range journal at end)
    last = append-nil (one k) ∙ ap (cycle_text plant apps k) (rows_between journal k at end from to later)

    whole : cycles_text plant apps journal (k + 1) ≡ cycles_text plant apps journal k ++ cycle_text plant apps k (slice_range journal at end)
    whole = ap (flat_map one) (up_to k) ∙ (flat_map-append one (range_with_len 0 k) (k ∷ []) ∙
        ap (λ xs. cycles_text plant apps journal k ++ xs) last)
