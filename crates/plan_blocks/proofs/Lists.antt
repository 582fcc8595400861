-- Reads of lists.
use Rattle.std.proofs.Common.{◌≡◌, ◌+◌, ◌<◌, ◌⊎◌, ◌++◌, ◌∷◌, [], ℕ, zero, suc, inl, inr, List, Option, Some, None, length, get_or, take, refl, sym, ◌∙◌, ap, arith, length-append}
use Rattle.std.specs.Prelude.{slice_get}
use Rattle.std.specs.List.{filter_map}
use Rattle.std.proofs.lemmas.List.{append-nil, take_more}
use Rattle.std.proofs.lemmas.List.Elements.{filter_map-append}
use Rattle.std.proofs.lemmas.Option.{get_or_from_slice_get, same_Some}

-- an item of a list with one more
pub get_more : {A : Type 0} (xs : List A) (y : A) (i : ℕ) (x : A) → slice_get (xs ++ y ∷ []) i ≡ Some x →
    (slice_get xs i ≡ Some x) ⊎ ((i ≡ length xs) × (y ≡ x))
get_more [] y zero x at = inr (refl, same_Some y x at)
get_more [] y (suc i) x at = absurd cc
get_more (z ∷ xs) y zero x at = inl at
get_more (z ∷ xs) y (suc i) x at = elim (get_more xs y i x at) [ inl before ↦ inl before | inr last ↦ inr (ap suc last.0, last.1) ]

pub get_kept : {A : Type 0} (xs : List A) (y : A) (i : ℕ) (x : A) → slice_get xs i ≡ Some x → slice_get (xs ++ y ∷ []) i ≡ Some x
get_kept [] y i x at = absurd cc
get_kept (z ∷ xs) y zero x at = at
get_kept (z ∷ xs) y (suc i) x at = get_kept xs y i x at

pub get_last : {A : Type 0} (xs : List A) (y : A) (i : ℕ) → i ≡ length xs → slice_get (xs ++ y ∷ []) i ≡ Some y
get_last [] y i is = ap (slice_get (y ∷ [])) is
get_last (z ∷ xs) y zero is = absurd (omega (arith, is))
get_last (z ∷ xs) y (suc i) is = get_last xs y i (omega (arith, is))

pub length_more : {A : Type 0} (xs : List A) (y : A) → length (xs ++ y ∷ []) ≡ length xs + 1
length_more xs y = length-append xs (y ∷ [])

-- what a look-up of an optional item gives
pub read_none : {A : Type 0} (xs : List (Option A)) (n : ℕ) → None ≡ slice_get xs n → None ≡ get_or xs n None
read_none [] n is = refl
read_none (x ∷ xs) zero is = absurd cc
read_none (x ∷ xs) (suc n) is = read_none xs n is

pub read_some : {A : Type 0} (xs : List (Option A)) (n : ℕ) (x : Option A) → Some x ≡ slice_get xs n → x ≡ get_or xs n None
read_some xs n x is = sym (get_or_from_slice_get xs n x None (sym is))

-- one more item, where it gives one and where it gives none
pub given_one : {A B : Type 0} (h : A → Option B) (xs : List A) (x : A) (y : B) → Some y ≡ h x → filter_map h (xs ++ x ∷ []) ≡ filter_map h xs ++ y ∷ []
given_one h xs x y is = filter_map-append h xs (x ∷ []) ∙ ap (λ ys. filter_map h xs ++ ys) (rw (← is) refl)

pub given_none : {A B : Type 0} (h : A → Option B) (xs : List A) (x : A) → None ≡ h x → filter_map h (xs ++ x ∷ []) ≡ filter_map h xs
given_none h xs x is = filter_map-append h xs (x ∷ []) ∙ ap (λ ys. filter_map h xs ++ ys) (rw (← is) refl) ∙ append-nil (filter_map h xs)

pub next_given : {A B : Type 0} (h : A → Option B) (xs : List A) (n : ℕ) (d : A) (y : B) → n < length xs → Some y ≡ h (get_or xs n d) →
    filter_map h (take (n + 1) xs) ≡ filter_map h (take n xs) ++ y ∷ []
next_given h xs n d y inside is = ap (filter_map h) (take_more xs n d inside) ∙ given_one h (take n xs) (get_or xs n d) y is

pub next_none : {A B : Type 0} (h : A → Option B) (xs : List A) (n : ℕ) (d : A) → n < length xs → None ≡ h (get_or xs n d) →
    filter_map h (take (n + 1) xs) ≡ filter_map h (take n xs)
next_none h xs n d inside is = ap (filter_map h) (take_more xs n d inside) ∙ given_none h (take n xs) (get_or xs n d) is
