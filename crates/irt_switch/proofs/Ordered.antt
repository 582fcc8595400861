-- The entries that a device provides, in the order of their release.
use Rattle.std.proofs.Common.{◌≡◌, ◌≢◌, ℕ, zero, suc, ◌+◌, ◌<◌, ◌≤◌, ◌%◌, ◌==◌, ltb, Bool, true, false, List, ◌∷◌, length, get_or, ◌++◌, map, filter, take, drop, slice_get, Some, All, AllPairs, ◌⊎◌, inl, inr, refl, sym, ◌∙◌, ap, subst, subst₂, arith}
use Rattle.std.specs.Prelude.{pos, ◌<ℤ◌}
use Rattle.std.specs.List.{AllByRecursion, Contains}
use Rattle.std.specs.List.Sorted.{IsPermutation, IsSortedByKey, IsStrictlyIncreasing}
use Rattle.std.specs.Ordering.{nat_cmp, ordering_then, is_lt}
use Rattle.std.specs.declared.cmp.Ordering.{Ordering}
use Rattle.std.proofs.lemmas.Bool.{cases_Bool, cases_lt, eqb-true, eqb-false, eq-eqb, ne_eqb, ltb-true}
use Rattle.std.proofs.lemmas.Bool.Decides.{nat_tests, Decides-eqb}
use Rattle.std.proofs.lemmas.Int.{ints}
use Rattle.std.proofs.lemmas.List.{length-map, take_at}
use Rattle.std.proofs.lemmas.List.Elements.{All-contains, All-from_recursion, Contains-get_or}
use Rattle.std.proofs.lemmas.Option.{slice_get-get_or}
use Rattle.std.proofs.lemmas.List.Kept.{AllPairs-filter}
use Rattle.std.proofs.lemmas.List.Sorted.{IsPermutation-map, IsPermutation-sym, Contains-permutation}
use Rattle.std.proofs.lemmas.Map.Keys.{IsDistinct-IsPermutation}
use Rattle.std.proofs.lemmas.Map.Made.{AllPairs-from_IsDistinct, IsDistinct-from_AllPairs}
use Rattle.irt_base.specs.Valid.{IsEntry, frames_of}
use Rattle.irt_base.specs.declared.blocks.Bundle.{Bundle}
use Rattle.irt_base.specs.declared.blocks.Entry.{Entry}
use Rattle.irt_switch.specs.declared.action.Outgoing.{Outgoing}
use Rattle.period_gate.specs.Gate.{Waiting}
use Rattle.irt_switch.specs.Begin.{IsToRelease, AreBegun}
use Rattle.irt_switch.specs.declared.release.ReleaseKey.{ReleaseKey}
use Rattle.irt_switch.specs.Order.{IsReleaseOrder, key_of, still_due}
use Rattle.irt_switch.specs.Release.{IsReleasedBefore, IsReleaseList, outgoing_of, is_due, is_provided}
use Rattle.irt_switch.proofs.Finding.{AreAscending, ascending, number-map}
use Rattle.irt_switch.proofs.Members.{pairs_map, in_map, from_map, in_filter, from_filter, rest_at}

-- the first key comes before the second
abbrev pub key_cmp : ReleaseKey → ReleaseKey → Ordering
key_cmp a b = ordering_then (nat_cmp a.offset b.offset) (nat_cmp a.frame b.frame)

-- where each step of a list is so, all pairs are
pairs_of_steps : {X : Type 0} (R : X → X → Type 0) → ((a b c : X) → R a b → R b c → R a c) → (xs : List X) →
    ((k : ℕ) (d : X) → k + 1 < length xs → R (get_or xs k d) (get_or xs (k + 1) d)) → AllPairs R xs
pairs_of_steps R follows xs step i zero d before below = absurd (omega arith)
pairs_of_steps {X} R follows xs step i (suc j) d before below =
    let At : ℕ → Type 0 = λ n. R (get_or xs i d) (get_or xs n d) in
    let last : R (get_or xs j d) (get_or xs (suc j) d) =
    let To : ℕ → Type 0 = λ n. R (get_or xs j d) (get_or xs n d) in subst To (omega arith) (step j d (omega arith)) in
    elim (cases_lt i j) [
      | inl less ↦ follows (get_or xs i d) (get_or xs j d) (get_or xs (suc j) d) (pairs_of_steps R follows xs step i j d less (omega arith)) last
      | inr same ↦
          let From : ℕ → Type 0 = λ n. R (get_or xs n d) (get_or xs (suc j) d) in
          let is : j ≡ i = omega arith in subst From is last
    ]

at_most : (a b c d : ℕ) → is_lt (ordering_then (nat_cmp b a) (nat_cmp d c)) ≡ false → (a < b) ⊎ ((a ≡ b) × (c ≤ d))
at_most a b c d not = grind (arith, nat_tests)

-- two keys of different frames, in order
not_less : (a b c d : ℕ) → is_lt (ordering_then (nat_cmp b a) (nat_cmp d c)) ≡ false → ¬ (c ≡ d) → (pos a <ℤ pos b) ⊎ ((pos a ≡ pos b) × (c < d))
not_less a b c d not other = elim (at_most a b c d not) [
  | inl less ↦ inl (omega (arith, ints))
  | inr same ↦ inr (ap pos same.0, elim (cases_lt c d) [ inl less ↦ less | inr more ↦ absurd (other (omega arith)) ])
]

before_follows : (x y z : Entry) → IsReleasedBefore (outgoing_of x) (outgoing_of y) → IsReleasedBefore (outgoing_of y) (outgoing_of z) →
    IsReleasedBefore (outgoing_of x) (outgoing_of z)
before_follows x y z (inl first) (inl second) = inl (omega (arith, ints))
before_follows x y z (inl first) (inr second) = let e = second.0 in inl (omega (arith, ints))
before_follows x y z (inr first) (inl second) = let e = first.0 in inl (omega (arith, ints))
before_follows x y z (inr first) (inr second) = inr (first.0 ∙ second.0, omega arith)

test_flips : (a b : ℕ) → (a == b) ≡ (b == a)
test_flips a b = elim (cases_Bool (a == b)) [
  | inl is ↦ is ∙ sym (eq-eqb b a (sym (eqb-true a b is)))
  | inr not ↦ not ∙ sym (ne_eqb b a (λ e. eqb-false a b not (sym e)))
]

-- entries whose frames differ
frames_differ : (made sorted : List Entry) → AreAscending made → IsPermutation made sorted → AllPairs (λ (a b : ℕ). a ≢ b) (frames_of sorted)
frames_differ made sorted up same =
    let frame : Entry → ℕ = λ e. e.frame.0 in
    let apart : AllPairs (λ (a b : ℕ). a ≢ b) (frames_of made) =
    pairs_map frame (λ (a b : ℕ). a ≢ b) made (λ i j d before below e. let less = up i j d before below in omega (arith, e)) in
    AllPairs-from_IsDistinct Decides-eqb (frames_of sorted)
    (IsDistinct-IsPermutation (λ (a b : ℕ). a == b) test_flips (frames_of made) (frames_of sorted) (IsPermutation-map frame made sorted same)
    (IsDistinct-from_AllPairs Decides-eqb (frames_of made) apart))

pub release_order : (entries made sorted : List Entry) → IsStrictlyIncreasing (frames_of entries) → made ≡ filter is_provided entries → IsPermutation made sorted →
    IsSortedByKey key_of key_cmp sorted → IsReleaseOrder entries sorted
release_order entries made sorted increasing is same up =
    let From : List Entry → Type 0 = λ xs. IsPermutation xs sorted in
    let Up : List Entry → Type 0 = λ xs. AreAscending xs in
    let made_up : AreAscending made =
    subst Up (sym is) (AllPairs-filter (λ (a b : Entry). a.frame.0 < b.frame.0) is_provided entries (ascending entries increasing)) in
    let differ = frames_differ made sorted made_up same in
    record {
      same = subst From is same;
      sorted = pairs_of_steps (λ (a b : Entry). IsReleasedBefore (outgoing_of a) (outgoing_of b)) before_follows sorted (λ k d below.
          not_less _ _ _ _ (up k d (omega arith) below)
          (λ e. differ k (k + 1) 0 (omega arith) (omega (arith, length-map sorted (λ (e : Entry). e.frame.0)))
          (number-map sorted k d (omega arith) ∙ e ∙ sym (number-map sorted (k + 1) d below))));
    }

stands_in : (entries provided : List Entry) (e : Entry) → IsReleaseOrder entries provided → Contains provided e → Contains entries e × (is_provided e ≡ true)
stands_in entries provided e order is =
    from_filter is_provided entries e (Contains-permutation provided (filter is_provided entries) e (IsPermutation-sym (filter is_provided entries) provided order.same) is)

pub provided_valid : (entries provided : List Entry) → AllByRecursion IsEntry entries → IsReleaseOrder entries provided → All IsEntry provided
provided_valid entries provided all order k d below =
    All-contains IsEntry entries (get_or provided k d) (All-from_recursion IsEntry entries all)
    (stands_in entries provided (get_or provided k d) order (Contains-get_or provided k d below)).0

-- the due ones among them are what the device releases in a cycle
release_list : (bundle : Bundle) (k : ℕ) (provided : List Entry) → IsReleaseOrder bundle.frames.entries provided →
    IsReleaseList bundle k (map outgoing_of (filter (is_due k) provided))
release_list bundle k provided order = record {
  sorted = pairs_map outgoing_of IsReleasedBefore (filter (is_due k) provided)
      (AllPairs-filter (λ (a b : Entry). IsReleasedBefore (outgoing_of a) (outgoing_of b)) (is_due k) provided order.sorted);
  exactly = λ o. (
    λ is.
        let (e, among, at) = from_map outgoing_of (filter (is_due k) provided) o is in
        let (kept, due) = from_filter (is_due k) provided e among in
        let (stands, own) = stands_in bundle.frames.entries provided e order kept in
        record { e = e; stands = stands; provided = eqb-true e.rx_port 0 own; due = eqb-true ((k % e.ratio) + 1) e.phase due; is = at },
    λ r.
        let own = in_filter is_provided bundle.frames.entries r.e r.stands (eq-eqb r.e.rx_port 0 r.provided) in
        let kept = Contains-permutation (filter is_provided bundle.frames.entries) provided r.e order.same own in
        subst (λ x. Contains (map outgoing_of (filter (is_due k) provided)) x) (sym r.is)
        (in_map outgoing_of (filter (is_due k) provided) r.e (in_filter (is_due k) provided r.e kept (eq-eqb ((k % r.e.ratio) + 1) r.e.phase r.due))),
  );
}

pub to_release : (bundle : Bundle) (k : ℕ) (step : Bool) (provided : List Entry) → IsReleaseOrder bundle.frames.entries provided →
    IsToRelease bundle k step (still_due step k 0 provided)
to_release bundle k true provided order = release_list bundle k provided order
to_release bundle k false provided order = refl

-- the entry at a place is the first one due from another place on
pub record IsNext (k from place : ℕ) (xs : List Entry) (e : Entry) : Type 0 where
  pub skipped : filter (is_due k) (drop from xs) ≡ filter (is_due k) (drop place xs)
  pub at : slice_get xs place ≡ Some e
  pub due : is_due k e ≡ true

pub next_of : (k from place : ℕ) (xs seen read : List Entry) (e : Entry) → seen ≡ xs → read ≡ xs →
    filter (is_due k) (drop from seen) ≡ filter (is_due k) (drop place seen) → true ≡ ltb place (length read) → e ≡ get_or read place e →
    ((x : Entry) → slice_get seen place ≡ Some x → is_due k x ≡ true) → IsNext k from place xs e
next_of k from place xs seen read e first second skipped below at due =
    let found : slice_get read place ≡ Some e = slice_get-get_or read place e (ltb-true place (length read) (sym below)) ∙ ap Some (sym at) in
    record {
      skipped = subst (λ ys. filter (is_due k) (drop from ys) ≡ filter (is_due k) (drop place ys)) first skipped;
      at = subst (λ ys. slice_get ys place ≡ Some e) second found;
      due = due e (subst (λ ys. slice_get ys place ≡ Some e) (second ∙ sym first) found);
    }

released : (step : Bool) (k from place : ℕ) (xs : List Entry) (e : Entry) → step ≡ true → IsNext k from place xs e →
    still_due step k from xs ≡ outgoing_of e ∷ still_due step k (place + 1) xs
released step k from place xs e on next =
    let At : Bool → Type 0 = λ b. still_due b k from xs ≡ outgoing_of e ∷ still_due b k (place + 1) xs in
    let passes : is_due k e ≡ true = next.due in
    let whole : still_due true k from xs ≡ outgoing_of e ∷ still_due true k (place + 1) xs =
    ap (map outgoing_of) (next.skipped ∙ ap (filter (is_due k)) (rest_at xs place e next.at)) ∙ rw passes refl in
    subst At (sym on) whole

pub released_first : (left : List Outgoing) (step : Bool) (k from place : ℕ) (xs : List Entry) (e : Entry) (o : Outgoing) → still_due step k from xs ≡ left → step ≡ true →
    IsNext k from place xs e → o ≡ outgoing_of e → Some o ≡ slice_get left 0
released_first left step k from place xs e o all on next is =
    ap Some is ∙ ap (λ l. slice_get l 0) (sym (released step k from place xs e on next) ∙ all)

pub released_rest : (left : List Outgoing) (step : Bool) (k from place : ℕ) (xs : List Entry) (e : Entry) → still_due step k from xs ≡ left → step ≡ true →
    IsNext k from place xs e → still_due step k (place + 1) xs ≡ drop 1 left
released_rest left step k from place xs e all on next = ap (drop 1) (sym (released step k from place xs e on next) ∙ all)

-- gates that began behind a `Vec` are its gates
pub begun_gates : (b own : Bundle) (k count : ℕ) (gates seen was new : List Waiting) → b ≡ own → seen ≡ gates → gates ≡ was → length gates ≡ count →
    AreBegun b k seen new → AreBegun own k was (take count (new ++ drop (length new) gates))
begun_gates b own k count gates seen was new same read kept counted begun =
    let long : length new ≡ count = begun.count ∙ ap length read ∙ counted in
    let all : new ≡ take count (new ++ drop (length new) gates) = sym (take_at new (drop (length new) gates) count long) in
    let From : Bundle → List Waiting → Type 0 = λ x ws. AreBegun x k ws new in
    subst (λ ws. AreBegun own k was ws) all (subst₂ From same (read ∙ kept) begun)
