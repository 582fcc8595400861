-- Lists: pairs of their items, and members.
use Rattle.std.proofs.Common.{◌≡◌, ℕ, suc, Bool, false, cond, List, [], ◌∷◌, ◌++◌, get_or, ◌⊎◌, inl, inr, refl, ap, arith, All, AllPairs}
use Rattle.std.specs.List.{Contains, count_by}
use Rattle.std.proofs.lemmas.List.Kept.{AllPairs-cons}
use Rattle.std.proofs.lemmas.List.Elements.{All-append, Contains-get_or, Contains-append_right, Contains-append_cases, Contains-push_cases}
use Rattle.std.proofs.lemmas.List.Sums.{sum_by-cons}

pub nothing : {X : Type 0} (x : X) → Contains [] x → ⊥
nothing x (k, below, is) = omega arith

pub Contains-here : {X : Type 0} (x : X) (xs : List X) → Contains (x ∷ xs) x
Contains-here x xs = (0, omega arith, refl)

pub Contains-later : {X : Type 0} (y : X) (xs : List X) (x : X) → Contains xs x → Contains (y ∷ xs) x
Contains-later y xs x is = Contains-append_right (y ∷ []) xs x is

pub Contains-cases : {X : Type 0} (y : X) (xs : List X) (x : X) → Contains (y ∷ xs) x → (y ≡ x) ⊎ Contains xs x
Contains-cases y xs x is = elim (Contains-append_cases (y ∷ []) xs x is) [
  | inl h ↦ inl (elim (Contains-push_cases [] y x h) [ inl none ↦ absurd (nothing x none) | inr same ↦ same ])
  | inr h ↦ inr h
]

pub all_of : {X : Type 0} (P : X → Type 0) (xs : List X) → ((x : X) → Contains xs x → P x) → All P xs
all_of P xs each = λ k d below. each (get_or xs k d) (Contains-get_or xs k d below)

-- ---- pairs

pub AllPairs-none : {X : Type 0} (R : X → X → Type 0) → AllPairs R []
AllPairs-none R = λ i j d before below. absurd (omega arith)

pub AllPairs-tail : {X : Type 0} (R : X → X → Type 0) (x : X) (xs : List X) → AllPairs R (x ∷ xs) → AllPairs R xs
AllPairs-tail R x xs pairs = λ i j d before below. pairs (suc i) (suc j) d (omega arith) (omega arith)

pub AllPairs-head : {X : Type 0} (R : X → X → Type 0) (x : X) (xs : List X) → AllPairs R (x ∷ xs) → All (R x) xs
AllPairs-head R x xs pairs = λ k d below. pairs 0 (suc k) d (omega arith) (omega arith)

pub AllPairs-append : {X : Type 0} (R : X → X → Type 0) (xs ys : List X) → AllPairs R xs → AllPairs R ys →
    ((x y : X) → Contains xs x → Contains ys y → R x y) → AllPairs R (xs ++ ys)
AllPairs-append R [] ys one two cross = two
AllPairs-append R (x ∷ xs) ys one two cross =
    AllPairs-cons R x (xs ++ ys)
    (All-append (R x) xs ys (AllPairs-head R x xs one) (all_of (R x) ys (λ y is. cross x y (Contains-here x xs) is)))
    (AllPairs-append R xs ys (AllPairs-tail R x xs one) two (λ z y is also. cross z y (Contains-later x xs z is) also))

-- what follows for members from one relation to another
pub AllPairs-then : {X : Type 0} (R S : X → X → Type 0) (xs : List X) → AllPairs R xs →
    ((x y : X) → Contains xs x → Contains xs y → R x y → S x y) → AllPairs S xs
AllPairs-then R S xs pairs follows = λ i j d before below.
    follows (get_or xs i d) (get_or xs j d) (Contains-get_or xs i d (omega arith)) (Contains-get_or xs j d below) (pairs i j d before below)

-- ---- counts

pub count_none : {X : Type 0} (p : X → Bool) (xs : List X) → ((x : X) → Contains xs x → p x ≡ false) → count_by p xs ≡ 0
count_none p [] each = refl
count_none p (x ∷ xs) each =
    let here : cond {A = ℕ} (p x) 1 0 ≡ 0 = ap (λ b. cond {A = ℕ} b 1 0) (each x (Contains-here x xs)) in
    let more = count_none p xs (λ y is. each y (Contains-later x xs y is)) in
    let whole = sum_by-cons (λ y. cond (p y) 1 0) x xs in
    omega arith
