-- The order of rows: it has no circles, its lists are fixed by their members, and a sort by keys that differ gives it.
use Rattle.std.proofs.Common.{◌≡◌, ◌≢◌, ℕ, ◌<◌, Bool, true, false, cond, List, [], ◌∷◌, get_or, ◌⊎◌, inl, inr, refl, sym, ◌∙◌, ap, subst, arith, AllPairs}
use Rattle.std.specs.Prelude.{ℤ, ◌<ℤ◌}
use Rattle.std.specs.List.{Contains, count_by}
use Rattle.std.specs.List.Sorted.{IsPermutation, IsSortedByKey}
use Rattle.std.specs.Ordering.{nat_cmp, int_cmp, ordering_then, ordering_reverse, is_lt, is_eq}
use Rattle.std.specs.declared.cmp.Ordering.{Ordering}
use Rattle.std.specs.declared.cmp.Ordering.TheVariants.{Less, Equal, Greater}
use Rattle.std.specs.Cmp.{IsTotalOrder}
use Rattle.std.proofs.lemmas.Bool.{true≢false}
use Rattle.std.proofs.lemmas.Bool.Decides.{nat_tests}
use Rattle.std.proofs.lemmas.Cmp.{nat_cmp_total, int_cmp_total, then_total, on_total, int_ranked, tied_itself}
use Rattle.std.proofs.lemmas.Int.{ints}
use Rattle.std.proofs.lemmas.List.Elements.{All-contains}
use Rattle.std.proofs.lemmas.List.Sorted.{ranks_by, sorted_far}
use Rattle.std.proofs.lemmas.Map.Lookups.{exact_unsigned, exact_signed}
use Rattle.std.proofs.lemmas.Map.Keys.{IsDistinct-from_apart, IsDistinct-IsPermutation, apart_from_distinct}
use Rattle.std.proofs.lemmas.List.Sums.{sum_by-cons}
use Rattle.cycle_rows.specs.declared.rows.JournalRow.{JournalRow}
use Rattle.cycle_rows.specs.declared.rows.RowKey.{RowKey}
use Rattle.cycle_rows.specs.Order.{key_of, IsKeyBefore, IsRowBefore, HasOtherKey, AreInOrder}
use Rattle.cycle_rows.proofs.Lists.{nothing, Contains-here, Contains-later, Contains-cases, AllPairs-head, AllPairs-tail, count_none}

-- ---- no circles

no_turn : (a b c d e f : ℕ) (s t : ℤ) → (a < b) ⊎ ((a ≡ b) × ((c < d) ⊎ ((c ≡ d) × ((e < f) ⊎ ((e ≡ f) × (s <ℤ t)))))) →
    (b < a) ⊎ ((b ≡ a) × ((d < c) ⊎ ((d ≡ c) × ((f < e) ⊎ ((f ≡ e) × (t <ℤ s)))))) → ⊥
no_turn a b c d e f s t (inl x) (inl y) = omega arith
no_turn a b c d e f s t (inl x) (inr y) = let q = y.0 in omega arith
no_turn a b c d e f s t (inr x) (inl y) = let q = x.0 in omega arith
no_turn a b c d e f s t (inr (p, inl x)) (inr (q, inl y)) = omega arith
no_turn a b c d e f s t (inr (p, inl x)) (inr (q, inr y)) = let r = y.0 in omega arith
no_turn a b c d e f s t (inr (p, inr x)) (inr (q, inl y)) = let r = x.0 in omega arith
no_turn a b c d e f s t (inr (p, inr (r, inl x))) (inr (q, inr (w, inl y))) = omega arith
no_turn a b c d e f s t (inr (p, inr (r, inl x))) (inr (q, inr (w, inr y))) = let v = y.0 in omega arith
no_turn a b c d e f s t (inr (p, inr (r, inr x))) (inr (q, inr (w, inl y))) = let v = x.0 in omega arith
no_turn a b c d e f s t (inr (p, inr (r, inr x))) (inr (q, inr (w, inr y))) =
    let less = x.1 in
    let more = y.1 in
    omega (arith, ints)

pub not_both : (r s : JournalRow) → IsRowBefore r s → IsRowBefore s r → ⊥
not_both r s one two =
    no_turn (key_of r).kind (key_of s).kind (key_of r).device (key_of s).device (key_of r).port (key_of s).port (key_of r).at (key_of s).at one two

pub not_itself : (r : JournalRow) → IsRowBefore r r → ⊥
not_itself r one = not_both r r one one

pub other_key : (r s : JournalRow) → IsRowBefore r s → key_of r ≡ key_of s → ⊥
other_key r s one same = no_turn k.kind k.kind k.device k.device k.port k.port k.at k.at both both
  where
    k : RowKey
    k = key_of s

    both : IsKeyBefore k k
    both = subst (λ x. IsKeyBefore x k) same one

-- ---- the members fix the list

later_above : (x : JournalRow) (xs : List JournalRow) → AreInOrder (x ∷ xs) → (y : JournalRow) → Contains xs y → IsRowBefore x y
later_above x xs order y is = All-contains (IsRowBefore x) xs y (AllPairs-head IsRowBefore x xs order) is

same_head : (x : JournalRow) (xs : List JournalRow) (y : JournalRow) (ys : List JournalRow) → AreInOrder (x ∷ xs) → AreInOrder (y ∷ ys) →
    Contains (y ∷ ys) x → Contains (x ∷ xs) y → x ≡ y
same_head x xs y ys order also here there = elim (Contains-cases y ys x here) [
  | inl same ↦ sym same
  | inr later ↦ elim (Contains-cases x xs y there) [
    | inl same ↦ same
    | inr far ↦ absurd (not_both x y (later_above x xs order y far) (later_above y ys also x later))
  ]
]

other_than : (x : JournalRow) (xs : List JournalRow) → AreInOrder (x ∷ xs) → (z : JournalRow) → Contains xs z → (y : JournalRow) (ys : List JournalRow) →
    x ≡ y → Contains (y ∷ ys) z → Contains ys z
other_than x xs order z is y ys same among = elim (Contains-cases y ys z among) [
  | inl equal ↦ absurd (not_itself x (subst (IsRowBefore x) (sym (same ∙ equal)) (later_above x xs order z is)))
  | inr later ↦ later
]

pub one_list : (xs ys : List JournalRow) → AreInOrder xs → AreInOrder ys → ((r : JournalRow) → Contains xs r → Contains ys r) →
    ((r : JournalRow) → Contains ys r → Contains xs r) → xs ≡ ys
one_list [] [] order also to back = refl
one_list [] (y ∷ ys) order also to back = absurd (nothing y (back y (Contains-here y ys)))
one_list (x ∷ xs) [] order also to back = absurd (nothing x (to x (Contains-here x xs)))
one_list (x ∷ xs) (y ∷ ys) order also to back =
    let same = same_head x xs y ys order also (to x (Contains-here x xs)) (back y (Contains-here y ys)) in
    let rest = one_list xs ys (AllPairs-tail IsRowBefore x xs order) (AllPairs-tail IsRowBefore y ys also)
    (λ z is. other_than x xs order z is y ys same (to z (Contains-later x xs z is)))
    (λ z is. other_than y ys also z is x xs (sym same) (back z (Contains-later y ys z is))) in
    λ i. same i ∷ rest i

-- a row that is the only one to pass a test is counted once
pub count_one : (p : JournalRow → Bool) (xs : List JournalRow) (r : JournalRow) → AreInOrder xs → Contains xs r → p r ≡ true →
    ((s : JournalRow) → Contains xs s → p s ≡ true → s ≡ r) → count_by p xs ≡ 1
count_one p [] r order is passes only = absurd (nothing r is)
count_one p (x ∷ xs) r order is passes only =
    let whole = sum_by-cons (λ y. cond (p y) 1 0) x xs in
    elim (Contains-cases x xs r is) [
      | inl same ↦
          let here : cond {A = ℕ} (p x) 1 0 ≡ 1 = ap (λ b. cond {A = ℕ} b 1 0) (ap p same ∙ passes) in
          let none = count_none p xs (λ s among. fails s among same (p s) refl) in
          omega arith
      | inr later ↦
          let here : cond {A = ℕ} (p x) 1 0 ≡ 0 = ap (λ b. cond {A = ℕ} b 1 0) (not_here later (p x) refl) in
          let more = count_one p xs r (AllPairs-tail IsRowBefore x xs order) later passes (λ s among. only s (Contains-later x xs s among)) in
          omega arith
    ]
  where
    fails : (s : JournalRow) → Contains xs s → x ≡ r → (b : Bool) → p s ≡ b → b ≡ false
    fails s among same false e = refl
    fails s among same true e =
        absurd (not_itself x (subst (IsRowBefore x) (only s (Contains-later x xs s among) e ∙ sym same) (later_above x xs order s among)))

    not_here : Contains xs r → (b : Bool) → p x ≡ b → p x ≡ false
    not_here later false e = e
    not_here later true e =
        absurd (not_itself r (subst (λ y. IsRowBefore y r) (only x (Contains-here x xs) e) (later_above x xs order r later)))

-- ---- a sort by keys that differ

abbrev pub key_cmp : RowKey → RowKey → Ordering
key_cmp a b = ordering_then (nat_cmp a.kind b.kind) (ordering_then (nat_cmp a.device b.device) (ordering_then (nat_cmp a.port b.port) (int_cmp a.at b.at)))

key_total : IsTotalOrder key_cmp
key_total = then_total (on_total (λ (a : RowKey). a.kind) nat_cmp_total) (then_total (on_total (λ (a : RowKey). a.device) nat_cmp_total)
    (then_total (on_total (λ (a : RowKey). a.port) nat_cmp_total) (on_total (λ (a : RowKey). a.at) int_cmp_total)))

not_more : (a b : ℕ) (rest : Ordering) → is_lt (ordering_then (nat_cmp b a) rest) ≡ false → (a < b) ⊎ ((a ≡ b) × (is_lt rest ≡ false))
not_more a b rest not = grind (arith, nat_tests)

not_later : (s t : ℤ) (r : Ordering) → r ≡ int_cmp t s → is_lt r ≡ false → (s <ℤ t) ⊎ (t ≡ s)
not_later s t Less is not = absurd (cc)
not_later s t Equal is not = inr (int_ranked t s Equal is)
not_later s t Greater is not = inl (int_ranked t s Greater is)

not_less : (a b : RowKey) → is_lt (key_cmp b a) ≡ false → a ≢ b → IsKeyBefore a b
not_less a b not other =
    elim (not_more a.kind b.kind (ordering_then (nat_cmp b.device a.device) (ordering_then (nat_cmp b.port a.port) (int_cmp b.at a.at))) not) [
      | inl less ↦ inl less
      | inr (kind, second) ↦ inr (
        kind,
        elim (not_more a.device b.device (ordering_then (nat_cmp b.port a.port) (int_cmp b.at a.at)) second) [
          | inl less ↦ inl less
          | inr (device, third) ↦ inr (
            device,
            elim (not_more a.port b.port (int_cmp b.at a.at) third) [
              | inl less ↦ inl less
              | inr (port, last) ↦ inr (
                port,
                elim (not_later a.at b.at (int_cmp b.at a.at) refl last) [
                  | inl less ↦ less
                  | inr same ↦ absurd (other (λ i. record { kind = kind i; device = device i; port = port i; at = sym same i }))
                ],
              )
            ],
          )
        ],
      )
    ]

-- ---- keys that differ

abbrev same_key : JournalRow → JournalRow → Bool
same_key r s = is_eq (key_cmp (key_of r) (key_of s))

first_equal : (a b : Ordering) → is_eq (ordering_then a b) ≡ true → (a ≡ Equal) × (is_eq b ≡ true)
first_equal Less b e = absurd (cc)
first_equal Equal b e = (refl, e)
first_equal Greater b e = absurd (cc)

equal_of : (r : Ordering) → is_eq r ≡ true → r ≡ Equal
equal_of Less e = absurd (cc)
equal_of Equal e = refl
equal_of Greater e = absurd (cc)

one_key : (a b : RowKey) → is_eq (key_cmp a b) ≡ true → a ≡ b
one_key a b e =
    let one = first_equal (nat_cmp a.kind b.kind) (ordering_then (nat_cmp a.device b.device) (ordering_then (nat_cmp a.port b.port) (int_cmp a.at b.at))) e in
    let two = first_equal (nat_cmp a.device b.device) (ordering_then (nat_cmp a.port b.port) (int_cmp a.at b.at)) one.1 in
    let three = first_equal (nat_cmp a.port b.port) (int_cmp a.at b.at) two.1 in
    let kind = exact_unsigned a.kind b.kind one.0 in
    let device = exact_unsigned a.device b.device two.0 in
    let port = exact_unsigned a.port b.port three.0 in
    let at = exact_signed a.at b.at (equal_of (int_cmp a.at b.at) three.1) in
    λ i. record { kind = kind i; device = device i; port = port i; at = at i }

test_fails : (r s : JournalRow) → HasOtherKey r s → (b : Bool) → same_key r s ≡ b → b ≡ false
test_fails r s other false e = refl
test_fails r s other true e = absurd (other (one_key (key_of r) (key_of s) e))

test_flips : (r s : JournalRow) → same_key r s ≡ same_key s r
test_flips r s = both (key_cmp (key_of r) (key_of s)) (key_cmp (key_of s) (key_of r)) (key_total.antisymm (key_of r) (key_of s))
  where
    both : (x y : Ordering) → x ≡ ordering_reverse y → is_eq x ≡ is_eq y
    both x Less e = ap is_eq e
    both x Equal e = ap is_eq e
    both x Greater e = ap is_eq e

test_passes : (r s : JournalRow) → key_of r ≡ key_of s → same_key r s ≡ true
test_passes r s same = ap (λ x. is_eq (key_cmp x (key_of s))) same ∙ ap is_eq (tied_itself key_total (key_of s))

keys_still_differ : (rows sorted : List JournalRow) → IsPermutation rows sorted → AllPairs HasOtherKey rows → AllPairs HasOtherKey sorted
keys_still_differ rows sorted moved differ =
    let apart = IsDistinct-from_apart same_key rows
    (λ i j d before below. test_fails (get_or rows i d) (get_or rows j d) (differ i j d before below) (same_key (get_or rows i d) (get_or rows j d)) refl) in
    let still = IsDistinct-IsPermutation same_key test_flips rows sorted moved apart in
    λ i j d before below same.
    let fails = apart_from_distinct same_key sorted i j d still before below in
    true≢false (sym (test_passes (get_or sorted i d) (get_or sorted j d) same) ∙ fails)

pub sorted_in_order : (rows sorted : List JournalRow) → IsPermutation rows sorted → IsSortedByKey key_of key_cmp sorted → AllPairs HasOtherKey rows → AreInOrder sorted
sorted_in_order rows sorted moved up differ =
    let other = keys_still_differ rows sorted moved differ in
    λ i j d before below.
    not_less (key_of (get_or sorted i d)) (key_of (get_or sorted j d))
    (sorted_far (λ r s. is_lt (key_cmp (key_of r) (key_of s))) (ranks_by key_total key_of) sorted up i j d (omega arith) below)
    (other i j d before below)
