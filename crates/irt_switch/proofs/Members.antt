-- What stands in lists that are mapped and filtered.
use Rattle.std.proofs.Common.{◌≡◌, ℕ, zero, suc, ◌+◌, Bool, true, false, List, [], ◌∷◌, map, filter, if◌then◌else◌, drop, slice_get, find, Some, AllPairs, ◌⊎◌, inl, inr, refl, sym, ◌∙◌, ap, subst, subst₂, arith}
use Rattle.std.specs.List.{Contains}
use Rattle.std.proofs.lemmas.Bool.{cases_Bool}
use Rattle.std.proofs.lemmas.Option.{same_Some}
use Rattle.std.proofs.lemmas.List.{get_or-map, length-map}

nothing : {X : Type 0} (x : X) → Contains [] x → ⊥
nothing x (k, below, is) = omega arith

pub here : {X : Type 0} (x : X) (xs : List X) → Contains (x ∷ xs) x
here x xs = (0, omega arith, refl)

pub later : {X : Type 0} (y : X) (xs : List X) (x : X) → Contains xs x → Contains (y ∷ xs) x
later y xs x (k, below, is) = (suc k, omega arith, is)

pub first_or_later : {X : Type 0} (y : X) (xs : List X) (x : X) → Contains (y ∷ xs) x → (y ≡ x) ⊎ Contains xs x
first_or_later y xs x (zero, below, is) = inl is
first_or_later y xs x (suc k, below, is) = inr (k, omega arith, is)

pub in_map : {X Y : Type 0} (f : X → Y) (xs : List X) (x : X) → Contains xs x → Contains (map f xs) (f x)
in_map f [] x is = absurd (nothing x is)
in_map f (y ∷ ys) x is = elim (first_or_later y ys x is) [
  | inl same ↦ subst (λ z. Contains (f y ∷ map f ys) z) (ap f same) (here (f y) (map f ys))
  | inr more ↦ later (f y) (map f ys) (f x) (in_map f ys x more)
]

pub from_map : {X Y : Type 0} (f : X → Y) (xs : List X) (y : Y) → Contains (map f xs) y → (x : X) × Contains xs x × (y ≡ f x)
from_map f [] y is = absurd (nothing y is)
from_map f (z ∷ zs) y is = elim (first_or_later (f z) (map f zs) y is) [
  | inl same ↦ (z, here z zs, sym same)
  | inr more ↦ let (x, among, at) = from_map f zs y more in (x, later z zs x among, at)
]

pub in_filter : {X : Type 0} (p : X → Bool) (xs : List X) (x : X) → Contains xs x → p x ≡ true → Contains (filter p xs) x
in_filter p [] x is passes = absurd (nothing x is)
in_filter p (y ∷ ys) x is passes = elim (cases_Bool (p y)) [
  | inl so ↦ rw so (elim (first_or_later y ys x is) [
    | inl same ↦ subst (λ z. Contains (y ∷ filter p ys) z) same (here y (filter p ys))
    | inr more ↦ later y (filter p ys) x (in_filter p ys x more passes)
  ])
  | inr not ↦ rw not (elim (first_or_later y ys x is) [
    | inl same ↦ let e : true ≡ false = sym passes ∙ ap p (sym same) ∙ not in absurd (cc)
    | inr more ↦ in_filter p ys x more passes
  ])
]

pub from_filter : {X : Type 0} (p : X → Bool) (xs : List X) (x : X) → Contains (filter p xs) x → Contains xs x × (p x ≡ true)
from_filter p [] x is = absurd (nothing x is)
from_filter {X} p (y ∷ ys) x is =
    let From : Bool → Type 0 = λ b. Contains (if b then y ∷ filter p ys else filter p ys) x in
    elim (cases_Bool (p y)) [
      | inl so ↦ elim (first_or_later y (filter p ys) x (subst From so is)) [
        | inl same ↦ (subst (λ z. Contains (y ∷ ys) z) same (here y ys), ap p (sym same) ∙ so)
        | inr more ↦ let (among, passes) = from_filter p ys x more in (later y ys x among, passes)
      ]
      | inr not ↦ let (among, passes) = from_filter p ys x (subst From not is) in (later y ys x among, passes)
    ]

pub pairs_map : {X Y : Type 0} (f : X → Y) (R : Y → Y → Type 0) (xs : List X) → AllPairs (λ (a b : X). R (f a) (f b)) xs → AllPairs R (map f xs)
pairs_map f R [] all i j d before below = absurd (omega arith)
pairs_map f R (x ∷ xs) all i j d before below =
    let count = length-map (x ∷ xs) f in
    subst₂ R (sym (get_or-map f (x ∷ xs) i x d (omega (arith, count)))) (sym (get_or-map f (x ∷ xs) j x d (omega (arith, count))))
    (all i j x before (omega (arith, count)))

pub rest_at : {X : Type 0} (xs : List X) (place : ℕ) (x : X) → slice_get xs place ≡ Some x → drop place xs ≡ x ∷ drop (place + 1) xs
rest_at [] place x is = absurd (cc)
rest_at (y ∷ ys) zero x is = ap (λ z. z ∷ ys) (cc)
rest_at (y ∷ ys) (suc place) x is = let same : suc (place + 1) ≡ suc place + 1 = omega arith in rest_at ys place x is ∙ ap (λ n. x ∷ drop n (y ∷ ys)) same

-- what a search finds stands in the list, and passes
pub found_in : {X : Type 0} (p : X → Bool) (xs : List X) (x : X) → Some x ≡ find p xs → Contains xs x × (p x ≡ true)
found_in p [] x is = absurd (cc)
found_in {X} p (y ∷ ys) x is =
    let Found : Bool → Type 0 = λ b. Some x ≡ (if b then Some y else find p ys) in
    elim (cases_Bool (p y)) [
      | inl so ↦ let same : y ≡ x = same_Some y x (sym (subst Found so is)) in (subst (λ z. Contains (y ∷ ys) z) same (here y ys), ap p (sym same) ∙ so)
      | inr not ↦ let (among, passes) = found_in p ys x (subst Found not is) in (later y ys x among, passes)
    ]
