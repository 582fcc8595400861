-- The end of a list, sorted in its place.
use Rattle.std.proofs.Common.{◌≡◌, ℕ, ◌-◌, ◌≤◌, List, ◌++◌, length, take, drop, sym, ◌∙◌, ap, subst, arith, append_assoc, length-append, AllPairs}
use Rattle.std.specs.List.Sorted.{IsPermutation}
use Rattle.std.proofs.lemmas.Grind.{common_steps}
use Rattle.std.proofs.lemmas.List.{take_at, take_rest}
use Rattle.std.proofs.lemmas.List.Sorted.{length_permutation}
use Rattle.cycle_rows.specs.declared.rows.JournalRow.{JournalRow}
use Rattle.cycle_rows.specs.Order.{HasOtherKey, AreInOrder}
use Rattle.run_journal.specs.Written.{IsSortedFrom}

length_front : (xs : List JournalRow) (from : ℕ) → from ≤ length xs → length (take from xs) ≡ from
length_front xs from within = grind (arith, common_steps)

length_rest : (xs : List JournalRow) (from : ℕ) → length (drop from xs) ≡ length xs - from
length_rest xs from = grind (arith, common_steps)

-- whatever stands behind, so many items are the front and the sorted part
pub sorted_end : (old read part post back : List JournalRow) (from n : ℕ) → read ≡ old → n ≡ length old → from ≤ n →
    IsPermutation (take (length read - from) (drop from read)) part → (AllPairs HasOtherKey (take (length read - from) (drop from read)) → AreInOrder part) →
    IsSortedFrom from old (take n ((take from read ++ (part ++ post)) ++ back))
sorted_end old read part post back from n is count within same order =
    let rest : take (length read - from) (drop from read) ≡ drop from old =
    ap (λ xs. take (length xs - from) (drop from xs)) is ∙ take_rest old from in
    let moved : IsPermutation (drop from old) part = subst (λ xs. IsPermutation xs part) rest same in
    let front = length_front old from (omega arith) in
    let long = length_permutation (drop from old) part moved in
    let end = length_rest old from in
    let joined = length-append (take from old) part in
    let whole : length (take from old ++ part) ≡ n = omega arith in
    let shape : (take from read ++ (part ++ post)) ++ back ≡ (take from old ++ part) ++ (post ++ back) =
    ap (λ xs. (take from xs ++ (part ++ post)) ++ back) is
    ∙ (ap (λ ys. ys ++ back) (sym (append_assoc (take from old) part post)) ∙ append_assoc (take from old ++ part) post back) in
    record {
      part = part;
      whole = ap (take n) shape ∙ take_at (take from old ++ part) (post ++ back) n whole;
      same = moved;
      order = λ differ. order (subst (AllPairs HasOtherKey) (sym rest) differ);
    }
