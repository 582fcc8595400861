-- The entry of a frame, where entries ascend by FrameID.
use Rattle.std.proofs.Common.{◌≡◌, ◌≢◌, ℕ, zero, suc, ◌≤◌, ◌<◌, ◌==◌, Bool, true, false, ltb, if◌then◌else◌, List, [], ◌∷◌, length, get_or, slice_get, find, Option, Some, None, option_and_then, AllPairs, inl, inr, refl, sym, ◌∙◌, ap, subst, arith}
use Rattle.std.specs.List.Sorted.{IsStrictlyIncreasing, IsNonDecreasingBy, IsPartitionPoint, IsPartitionedBy}
use Rattle.std.proofs.lemmas.Bool.{ltb-true, ltb-false, cases_Bool, cases_lt, eqb-false, eq-eqb, ne_eqb}
use Rattle.std.proofs.lemmas.Bool.Decides.{nat_tests}
use Rattle.std.proofs.lemmas.List.{get_or-map, length-map}
use Rattle.std.proofs.lemmas.List.Sorted.{IsPartitionedBy-ltb}
use Rattle.std.proofs.lemmas.List.Kept.{AllPairs-from_increasing}
use Rattle.std.proofs.lemmas.Option.{slice_get-get_or, slice_get_past}
use Rattle.irt_base.specs.Valid.{frames_of}
use Rattle.irt_base.specs.declared.blocks.Entry.{Entry}

-- each FrameID is below all later ones
abbrev pub AreAscending : List Entry → Type 0
AreAscending xs = AllPairs (λ (a b : Entry). a.frame.0 < b.frame.0) xs

pub number-map : (xs : List Entry) (i : ℕ) (d : Entry) → i < length xs → get_or (frames_of xs) i 0 ≡ (get_or xs i d).frame.0
number-map xs i d below = get_or-map (λ (e : Entry). e.frame.0) xs i d 0 below

pub ascending : (xs : List Entry) → IsStrictlyIncreasing (frames_of xs) → AreAscending xs
ascending xs increasing i j d before below =
    let step = AllPairs-from_increasing (frames_of xs) increasing i j 0 before (omega (arith, length-map xs (λ (e : Entry). e.frame.0))) in
    let first = number-map xs i d (omega arith) in
    let second = number-map xs j d below in
    omega (arith, step, first, second)

pub not_falling : (xs : List Entry) → AreAscending xs → IsNonDecreasingBy (λ (e : Entry). e.frame.0) xs
not_falling xs up i j d before below =
    elim (cases_lt i j) [
      | inl less ↦ let step = up i j d less below in omega arith
      | inr same ↦ let is : i ≡ j = omega arith in subst (λ n. (get_or xs i d).frame.0 ≤ (get_or xs n d).frame.0) is (omega arith)
    ]

pub tail_up : (x : Entry) (xs : List Entry) → AreAscending (x ∷ xs) → AreAscending xs
tail_up x xs up i j d before below = up (suc i) (suc j) d (omega arith) (omega arith)

-- no later entry has the FrameID
none_above : (frame : ℕ) (xs : List Entry) → ((k : ℕ) (d : Entry) → k < length xs → frame < (get_or xs k d).frame.0) →
    find (λ (e : Entry). e.frame.0 == frame) xs ≡ None
none_above frame [] above = refl
none_above frame (x ∷ xs) above =
    let no : (x.frame.0 == frame) ≡ false = let h = above 0 x (omega arith) in grind (arith, nat_tests) in
    rw no (none_above frame xs (λ k d below. above (suc k) d (omega arith)))

-- the entry, if it has the FrameID
abbrev pub if_frame : ℕ → Entry → Option Entry
if_frame frame e = if e.frame.0 == frame then Some e else None

pub find-at : (frame : ℕ) (xs : List Entry) (i : ℕ) → AreAscending xs → IsPartitionPoint (λ (e : Entry). ltb e.frame.0 frame ≡ true) (λ (e : Entry). ltb e.frame.0 frame ≡ false) xs i →
    find (λ (e : Entry). e.frame.0 == frame) xs ≡ option_and_then (if_frame frame) (slice_get xs i)
find-at frame [] i up point = refl
find-at frame (x ∷ xs) zero up point =
    elim (cases_Bool (x.frame.0 == frame)) [
      | inl is ↦ rw is refl
      | inr not ↦
          let apart : x.frame.0 ≢ frame = eqb-false x.frame.0 frame not in
          let least : frame ≤ x.frame.0 = ltb-false x.frame.0 frame (point.1 0 x (omega arith) (omega arith)) in
          rw not (none_above frame xs (λ k d below. let later = up 0 (suc k) d (omega arith) (omega arith) in omega arith))
    ]
find-at frame (x ∷ xs) (suc i) up point =
    let below : x.frame.0 < frame = ltb-true x.frame.0 frame (point.0 0 x (omega arith) (omega arith)) in
    let not : (x.frame.0 == frame) ≡ false = ne_eqb x.frame.0 frame (λ e. absurd (omega arith)) in
    rw not (find-at frame xs i (tail_up x xs up) (λ k d low high. point.0 (suc k) d (omega arith) (omega arith), λ k d low high. point.1 (suc k) d (omega arith) (omega arith)))

-- what a search by halves finds
pub entry_at_point : (frame : ℕ) (xs : List Entry) (i : ℕ) → IsStrictlyIncreasing (frames_of xs) →
    (IsPartitionedBy (λ (e : Entry). ltb e.frame.0 frame) xs →
    IsPartitionPoint (λ (e : Entry). ltb e.frame.0 frame ≡ true) (λ (e : Entry). ltb e.frame.0 frame ≡ false) xs i) →
    find (λ (e : Entry). e.frame.0 == frame) xs ≡ option_and_then (if_frame frame) (slice_get xs i)
entry_at_point frame xs i increasing point =
    let up = ascending xs increasing in
    find-at frame xs i up (point (IsPartitionedBy-ltb (λ (e : Entry). e.frame.0) xs frame (not_falling xs up)))

pub none_at : (frame : ℕ) (xs : List Entry) (i : ℕ) → length xs ≤ i → option_and_then (if_frame frame) (slice_get xs i) ≡ None
none_at frame xs i past = ap (option_and_then (if_frame frame)) (slice_get_past xs i past)

pub some_at : (frame : ℕ) (xs : List Entry) (i : ℕ) (e : Entry) → true ≡ ltb i (length xs) → e ≡ get_or xs i e → e.frame.0 ≡ frame →
    option_and_then (if_frame frame) (slice_get xs i) ≡ Some e
some_at frame xs i e below at is =
    ap (option_and_then (if_frame frame)) (slice_get-get_or xs i e (ltb-true i (length xs) (sym below)) ∙ ap Some (sym at))
    ∙ ap (λ (b : Bool). if b then Some e else None) (eq-eqb e.frame.0 frame is)

pub other_at : (frame : ℕ) (xs : List Entry) (i : ℕ) (e : Entry) → true ≡ ltb i (length xs) → e ≡ get_or xs i e → ¬ (e.frame.0 ≡ frame) →
    option_and_then (if_frame frame) (slice_get xs i) ≡ None
other_at frame xs i e below at not =
    ap (option_and_then (if_frame frame)) (slice_get-get_or xs i e (ltb-true i (length xs) (sym below)) ∙ ap Some (sym at))
    ∙ ap (λ (b : Bool). if b then Some e else None) (ne_eqb e.frame.0 frame not)
