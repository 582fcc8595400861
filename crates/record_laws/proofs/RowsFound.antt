-- Rows that stand by cycle are those of the first cycle, then those of the next, and so on.
use Rattle.std.proofs.Common.{◌≡◌, ◌<◌, ◌≤◌, ◌+◌, ◌==◌, ℕ, zero, suc, false, cond, List, [], ◌∷◌, ◌++◌, refl, sym, ◌∙◌, ap, arith, inl, inr, All}
use Rattle.std.specs.List.{AllByRecursion, flat_map, range_with_len}
use Rattle.std.proofs.lemmas.Bool.{cases_Bool, eqb-true}
use Rattle.std.proofs.lemmas.Bool.Decides.{nat_tests}
use Rattle.std.proofs.lemmas.List.Elements.{All-head, All-tail}
use Rattle.cycle_rows.specs.Rows.{cycle_of}
use Rattle.cycle_rows.specs.declared.rows.JournalRow.{JournalRow}
use Rattle.cycle_rows.proofs.Lists.{AllPairs-head, AllPairs-tail}
use Rattle.record_text.specs.Text.{StandByCycle, rows_of_cycle}

above : (a k : ℕ) → k < a → (a == k) ≡ false
above a k h = grind (arith, nat_tests)

below : (a k : ℕ) → a < k → (a == k) ≡ false
below a k h = grind (arith, nat_tests)

further : (a k : ℕ) → k ≤ a → (a == k) ≡ false → k + 1 ≤ a
further a k h e = grind (arith, nat_tests)

none_before : (k : ℕ) (rows : List JournalRow) → All (λ (s : JournalRow). k < cycle_of s) rows → rows_of_cycle k rows ≡ []
none_before k [] all = refl
none_before k (s ∷ rows) all =
    rw (above (cycle_of s) k (All-head (λ (s : JournalRow). k < cycle_of s) s rows all)) (none_before k rows (All-tail (λ (s : JournalRow). k < cycle_of s) s rows all))

none_later : (n a : ℕ) (r : JournalRow) (rows : List JournalRow) → cycle_of r < a →
    flat_map (λ k. rows_of_cycle k (r ∷ rows)) (range_with_len a n) ≡ flat_map (λ k. rows_of_cycle k rows) (range_with_len a n)
none_later zero a r rows early = refl
none_later (suc n) a r rows early = (λ i. here i ++ none_later n (a + 1) r rows (omega arith) i)
  where
    here : rows_of_cycle a (r ∷ rows) ≡ rows_of_cycle a rows
    here = ap (λ b. cond b (r ∷ rows_of_cycle a rows) (rows_of_cycle a rows)) (below (cycle_of r) a early)

first_row : (n a : ℕ) (r : JournalRow) (rows : List JournalRow) → a ≤ cycle_of r → cycle_of r < a + n → All (λ (s : JournalRow). cycle_of r ≤ cycle_of s) rows →
    flat_map (λ k. rows_of_cycle k (r ∷ rows)) (range_with_len a n) ≡ r ∷ flat_map (λ k. rows_of_cycle k rows) (range_with_len a n)
first_row zero a r rows from to later = absurd (omega arith)
first_row (suc n) a r rows from to later =
    elim (cases_Bool (cycle_of r == a)) [
      | inl here ↦
          let early : cycle_of r < a + 1 = omega (arith, eqb-true (cycle_of r) a here) in
          ap (λ b. cond b (r ∷ rows_of_cycle a rows) (rows_of_cycle a rows) ++ flat_map (λ k. rows_of_cycle k (r ∷ rows)) (range_with_len (a + 1) n)) here
          ∙ ap (λ xs. r ∷ (rows_of_cycle a rows ++ xs)) (none_later n (a + 1) r rows early)
      | inr other ↦
          let after : a + 1 ≤ cycle_of r = further (cycle_of r) a from other in
          let none : rows_of_cycle a rows ≡ [] = none_before a rows (λ i d inside. omega (arith, after, later i d inside)) in
          ap (λ b. cond b (r ∷ rows_of_cycle a rows) (rows_of_cycle a rows) ++ flat_map (λ k. rows_of_cycle k (r ∷ rows)) (range_with_len (a + 1) n)) other
          ∙ (ap (λ xs. xs ++ flat_map (λ k. rows_of_cycle k (r ∷ rows)) (range_with_len (a + 1) n)) none
          ∙ (first_row n (a + 1) r rows after (omega arith) later
          ∙ ap (λ xs. r ∷ (xs ++ flat_map (λ k. rows_of_cycle k rows) (range_with_len (a + 1) n))) (sym none)))
    ]

no_rows : (a n : ℕ) → flat_map (λ k. rows_of_cycle k []) (range_with_len a n) ≡ []
no_rows a zero = refl
no_rows a (suc n) = no_rows (a + 1) n

pub rows_found : (cycles : ℕ) (rows : List JournalRow) → StandByCycle rows → AllByRecursion (λ (r : JournalRow). cycle_of r < cycles) rows →
    flat_map (λ k. rows_of_cycle k rows) (range_with_len 0 cycles) ≡ rows
rows_found cycles [] order all = no_rows 0 cycles
rows_found cycles (r ∷ rows) order all =
    first_row cycles 0 r rows (omega arith) (omega (arith, all.0)) (AllPairs-head (λ (r s : JournalRow). cycle_of r ≤ cycle_of s) r rows order)
    ∙ ap (λ xs. r ∷ xs) (rows_found cycles rows (AllPairs-tail (λ (r s : JournalRow). cycle_of r ≤ cycle_of s) r rows order) all.1)
