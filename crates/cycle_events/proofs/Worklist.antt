-- What a run of a worklist keeps.
use Rattle.std.proofs.Common.{◌≡◌, ℕ, ◌+◌, ◌≤◌, Bool, true, false, cond, List, [], ◌∷◌, ◌++◌, length, inl, inr, refl, sym, ◌∙◌, ap, subst, arith, append_assoc, append-nil}
use Rattle.std.specs.List.{flat_map, count_by, sum_by, All, Contains}
use Rattle.std.specs.List.Sorted.{IsPermutation}
use Rattle.std.proofs.lemmas.List.Sorted.{IsPermutation-sym, IsPermutation-trans, IsPermutation-cons, IsPermutation-append_left, IsPermutation-append_right, IsPermutation-append_comm, Contains-permutation, sum_by-IsPermutation}
use Rattle.std.proofs.lemmas.List.Concat.{flat_map-append}
use Rattle.std.proofs.lemmas.List.Sums.{sum_by-append, sum_by-cons, sum_by-le}
use Rattle.std.proofs.lemmas.List.Elements.{All-head, All-tail, Contains-append_left, Contains-append_right, Contains-append_cases}
use Rattle.cycle_rows.proofs.Lists.{nothing, Contains-here, Contains-later, Contains-cases}

-- What was handled and what waits are, each once, the first ones and what the handled ones caused.
pub record IsRun {X : Type 0} (first : List X) (next : X → List X) (handled waiting : List X) : Type 0 where
  pub all : IsPermutation (handled ++ waiting) (first ++ flat_map next handled)

pub run_starts : {X : Type 0} (first : List X) (next : X → List X) (waiting : List X) → IsPermutation first waiting → IsRun first next [] waiting
run_starts first next waiting h = record { all = subst (λ ys. IsPermutation waiting ys) (sym (append-nil first)) (IsPermutation-sym first waiting h) }

-- the next one is taken out, and what it causes is put in
pub run_goes_on : {X : Type 0} (first : List X) (next : X → List X) (handled waiting rest left : List X) (x : X) → IsRun first next handled waiting →
    IsPermutation waiting (x ∷ rest) → IsPermutation (next x ++ rest) left → IsRun first next (handled ++ x ∷ []) left
run_goes_on {X} first next handled waiting rest left x run pop push =
    let one : IsPermutation ((handled ++ x ∷ []) ++ left) ((handled ++ x ∷ []) ++ (next x ++ rest)) =
    IsPermutation-append_right (handled ++ x ∷ []) left (next x ++ rest) (IsPermutation-sym (next x ++ rest) left push) in
    let shape : (handled ++ x ∷ []) ++ (next x ++ rest) ≡ handled ++ (x ∷ (next x ++ rest)) = append_assoc handled (x ∷ []) (next x ++ rest) in
    let two : IsPermutation (handled ++ (x ∷ (next x ++ rest))) (handled ++ (x ∷ (rest ++ next x))) =
    IsPermutation-append_right handled (x ∷ (next x ++ rest)) (x ∷ (rest ++ next x)) (IsPermutation-cons x (next x ++ rest) (rest ++ next x) (IsPermutation-append_comm (next x) rest)) in
    let back : handled ++ (x ∷ (rest ++ next x)) ≡ (handled ++ (x ∷ rest)) ++ next x = sym (append_assoc handled (x ∷ rest) (next x)) in
    let three : IsPermutation (handled ++ (x ∷ rest)) (first ++ flat_map next handled) =
    IsPermutation-trans (handled ++ (x ∷ rest)) (handled ++ waiting) (first ++ flat_map next handled)
    (IsPermutation-append_right handled (x ∷ rest) waiting (IsPermutation-sym waiting (x ∷ rest) pop)) run.all in
    let four : IsPermutation ((handled ++ (x ∷ rest)) ++ next x) ((first ++ flat_map next handled) ++ next x) =
    IsPermutation-append_left (next x) (handled ++ (x ∷ rest)) (first ++ flat_map next handled) three in
    let end : (first ++ flat_map next handled) ++ next x ≡ first ++ flat_map next (handled ++ x ∷ []) =
    append_assoc first (flat_map next handled) (next x)
    ∙ ap (λ ys. first ++ ys) (ap (λ zs. flat_map next handled ++ zs) (sym (append-nil (next x))) ∙ sym (flat_map-append next handled (x ∷ []))) in
    record {
      all = IsPermutation-trans _ _ _ one (subst (λ ys. IsPermutation ys (first ++ flat_map next (handled ++ x ∷ []))) (sym shape)
          (IsPermutation-trans _ _ _ two (subst (λ ys. IsPermutation ys (first ++ flat_map next (handled ++ x ∷ []))) (sym back) (subst (IsPermutation ((handled ++ (x ∷ rest)) ++ next x)) end four))));
    }

-- how often something stands among what the handled ones caused
pub counted_causes : {X Y : Type 0} (next : X → List Y) (p : Y → Bool) (q : X → Bool) (handled : List X) → All (λ x. count_by p (next x) ≤ cond (q x) 1 0) handled →
    count_by p (flat_map next handled) ≤ count_by q handled
counted_causes next p q [] each = omega arith
counted_causes next p q (x ∷ xs) each =
    let here = All-head (λ x. count_by p (next x) ≤ cond (q x) 1 0) x xs each in
    let more = counted_causes next p q xs (All-tail (λ x. count_by p (next x) ≤ cond (q x) 1 0) x xs each) in
    let left = sum_by-append (λ x. cond (p x) 1 0) (next x) (flat_map next xs) in
    let right = sum_by-cons (λ x. cond (q x) 1 0) x xs in
    omega arith

total : {X : Type 0} (first : List X) (next : X → List X) (handled waiting : List X) (p : X → Bool) → IsRun first next handled waiting →
    count_by p (handled ++ waiting) ≡ count_by p first + count_by p (flat_map next handled)
total first next handled waiting p run =
    sym (sum_by-IsPermutation (λ x. cond (p x) 1 0) (handled ++ waiting) (first ++ flat_map next handled) run.all)
    ∙ sum_by-append (λ x. cond (p x) 1 0) first (flat_map next handled)

-- what is not among the first ones, and is caused at most once by one thing, is there at most as often as that
pub as_often_as_cause : {X : Type 0} (first : List X) (next : X → List X) (handled waiting : List X) (p q : X → Bool) → IsRun first next handled waiting →
    count_by p first ≡ 0 → All (λ x. count_by p (next x) ≤ cond (q x) 1 0) handled → count_by p (handled ++ waiting) ≤ count_by q (handled ++ waiting)
as_often_as_cause first next handled waiting p q run none each =
    let t = total first next handled waiting p run in
    let c = counted_causes next p q handled each in
    let s = sum_by-append (λ x. cond (q x) 1 0) handled waiting in
    omega arith

counted_none : {X : Type 0} (xs : List X) → count_by (λ (x : X). false) xs ≡ 0
counted_none [] = refl
counted_none (x ∷ xs) = counted_none xs

-- what nothing causes is there as often as among the first ones
pub as_often_as_first : {X : Type 0} (first : List X) (next : X → List X) (handled waiting : List X) (p : X → Bool) → IsRun first next handled waiting →
    All (λ x. count_by p (next x) ≡ 0) handled → count_by p (handled ++ waiting) ≡ count_by p first
as_often_as_first first next handled waiting p run each =
    let t = total first next handled waiting p run in
    let c = counted_causes next p (λ _. false) handled (λ k d l. let e = each k d l in omega arith) in
    let n = counted_none handled in
    omega arith

-- once nothing waits, the first ones are handled, and what the handled ones cause
pub first_handled : {X : Type 0} (first : List X) (next : X → List X) (handled : List X) (x : X) → IsRun first next handled [] → Contains first x → Contains handled x
first_handled first next handled x run is =
    subst (λ ys. Contains ys x) (append-nil handled)
    (Contains-permutation (first ++ flat_map next handled) (handled ++ []) x (IsPermutation-sym (handled ++ []) (first ++ flat_map next handled) run.all)
    (Contains-append_left first (flat_map next handled) x is))

pub Contains-flat_map : {X Y : Type 0} (f : X → List Y) (xs : List X) (x : X) (y : Y) → Contains xs x → Contains (f x) y → Contains (flat_map f xs) y
Contains-flat_map f [] x y is in_it = absurd (nothing x is)
Contains-flat_map f (z ∷ xs) x y is in_it = elim (Contains-cases z xs x is) [
  | inl same ↦ Contains-append_left (f z) (flat_map f xs) y (subst (λ w. Contains (f w) y) (sym same) in_it)
  | inr later ↦ Contains-append_right (f z) (flat_map f xs) y (Contains-flat_map f xs x y later in_it)
]

pub from_flat_map : {X Y : Type 0} (f : X → List Y) (xs : List X) (y : Y) → Contains (flat_map f xs) y → (x : X) × Contains xs x × Contains (f x) y
from_flat_map f [] y is = absurd (nothing y is)
from_flat_map f (z ∷ xs) y is = elim (Contains-append_cases (f z) (flat_map f xs) y is) [
  | inl here ↦ (z, Contains-here z xs, here)
  | inr later ↦ let (x, among, gives) = from_flat_map f xs y later in (x, Contains-later z xs x among, gives)
]

pub caused_handled : {X : Type 0} (first : List X) (next : X → List X) (handled : List X) (h x : X) → IsRun first next handled [] → Contains handled h → Contains (next h) x → Contains handled x
caused_handled first next handled h x run is causes =
    subst (λ ys. Contains ys x) (append-nil handled)
    (Contains-permutation (first ++ flat_map next handled) (handled ++ []) x (IsPermutation-sym (handled ++ []) (first ++ flat_map next handled) run.all)
    (Contains-append_right first (flat_map next handled) x (Contains-flat_map next handled h x is causes)))

-- ---- places

places_zero : {X C : Type 0} (is : C → X → Bool) (places : List C) → sum_by (λ c. count_by (is c) []) places ≡ 0
places_zero is [] = refl
places_zero is (c ∷ places) =
    let whole = sum_by-cons (λ c. count_by (is c) []) c places in
    let more = places_zero is places in
    omega arith

places_step : {X C : Type 0} (is : C → X → Bool) (places : List C) (x : X) (xs : List X) →
    sum_by (λ c. count_by (is c) (x ∷ xs)) places ≡ sum_by (λ c. cond (is c x) 1 0) places + sum_by (λ c. count_by (is c) xs) places
places_step is [] x xs = refl
places_step is (c ∷ places) x xs =
    let whole = sum_by-cons (λ c. count_by (is c) (x ∷ xs)) c places in
    let left = sum_by-cons (λ c. cond (is c x) 1 0) c places in
    let right = sum_by-cons (λ c. count_by (is c) xs) c places in
    let here = sum_by-cons (λ y. cond (is c y) 1 0) x xs in
    let more = places_step is places x xs in
    omega arith

one_place : {X C : Type 0} (is : C → X → Bool) (places : List C) (x : X) (c : C) → Contains places c → is c x ≡ true → 1 ≤ sum_by (λ c. cond (is c x) 1 0) places
one_place is [] x c among at = absurd (nothing c among)
one_place is (d ∷ places) x c among at =
    let whole = sum_by-cons (λ c. cond (is c x) 1 0) d places in
    elim (Contains-cases d places c among) [
      | inl same ↦ let here : cond {A = ℕ} (is d x) 1 0 ≡ 1 = ap (λ b. cond {A = ℕ} b 1 0) (ap (λ e. is e x) same ∙ at) in omega arith
      | inr later ↦ let more = one_place is places x c later at in omega arith
    ]

counted_places : {X C : Type 0} (is : C → X → Bool) (places : List C) (xs : List X) → All (λ x. (c : C) × Contains places c × (is c x ≡ true)) xs →
    length xs ≤ sum_by (λ c. count_by (is c) xs) places
counted_places is places [] each = omega arith
counted_places {X} {C} is places (x ∷ xs) each =
    let P : X → Type 0 = λ x. (c : C) × Contains places c × (is c x ≡ true) in
    let here = All-head P x xs each in
    let one = one_place is places x here.0 here.1 here.2 in
    let more = counted_places is places xs (All-tail P x xs each) in
    let step = places_step is places x xs in
    omega arith

-- things that stand at places, at most one at each, are at most as many as the places
pub length-le-places : {X C : Type 0} (is : C → X → Bool) (places : List C) (xs : List X) → All (λ x. (c : C) × Contains places c × (is c x ≡ true)) xs →
    All (λ c. count_by (is c) xs ≤ 1) places → length xs ≤ length places
length-le-places is places xs each once =
    let counted = counted_places is places xs each in
    let bound = sum_by-le (λ c. count_by (is c) xs) 1 places once in
    omega arith
