-- Reads of lists.
use Rattle.std.proofs.Common.{◌≡◌, ◌+◌, ◌<◌, ◌⊎◌, ◌++◌, ◌∷◌, [], ℕ, zero, suc, inl, inr, List, Option, Some, None, length, get_or, take, refl, sym, ◌∙◌, ap, subst, arith, AllPairs}
use Rattle.std.specs.Prelude.{slice_get, Contains}
use Rattle.std.specs.List.{filter_map, AllByRecursion, cons_option}
use Rattle.std.proofs.lemmas.List.{append-nil, take_more}
use Rattle.std.proofs.lemmas.List.Elements.{filter_map-append}
use Rattle.std.proofs.lemmas.Option.{get_or_from_slice_get, slice_get_within, slice_get-get_or, same_Some}

pub no_entry : {A X : Type 0} (x : X) → None ≡ Some x → A
no_entry x is = absurd cc

-- an item of a list with one more
pub get_more : {A : Type 0} (xs : List A) (y : A) (i : ℕ) (x : A) → slice_get (xs ++ y ∷ []) i ≡ Some x →
    (slice_get xs i ≡ Some x) ⊎ ((i ≡ length xs) × (y ≡ x))
get_more [] y zero x at = inr (refl, same_Some y x at)
get_more [] y (suc i) x at = absurd cc
get_more (z ∷ xs) y zero x at = inl at
get_more (z ∷ xs) y (suc i) x at = elim (get_more xs y i x at) [ inl before ↦ inl before | inr last ↦ inr (ap suc last.0, last.1) ]

pub get_kept : {A : Type 0} (xs : List A) (y : A) (i : ℕ) (x : A) → slice_get xs i ≡ Some x → slice_get (xs ++ y ∷ []) i ≡ Some x
get_kept [] y i x at = absurd cc
get_kept (z ∷ xs) y zero x at = at
get_kept (z ∷ xs) y (suc i) x at = get_kept xs y i x at

pub get_last : {A : Type 0} (xs : List A) (y : A) → slice_get (xs ++ y ∷ []) (length xs) ≡ Some y
get_last [] y = refl
get_last (z ∷ xs) y = get_last xs y

pub contains_at : {X : Type 0} (xs : List X) (n : ℕ) (x : X) → slice_get xs n ≡ Some x → Contains xs x
contains_at xs n x is = (n, slice_get_within xs n x is, get_or_from_slice_get xs n x x is)

pub place_of : {X : Type 0} (xs : List X) (x : X) → Contains xs x → (n : ℕ) × (slice_get xs n ≡ Some x)
place_of {X} xs x (n, within, is) = (n, slice_get-get_or xs n x within ∙ ap (λ (y : X). Some y) is)

pub each_at : {X : Type 0} (P : X → Type 0) (xs : List X) (n : ℕ) (x : X) → AllByRecursion P xs → slice_get xs n ≡ Some x → P x
each_at P [] n x all is = no_entry x is
each_at P (y ∷ ys) zero x (here, rest) is = subst P (same_Some y x is) here
each_at P (y ∷ ys) (suc n) x (here, rest) is = each_at P ys n x rest is

pub some_at : {X : Type 0} (xs : List X) (n : ℕ) → n < length xs → (x : X) × (slice_get xs n ≡ Some x)
some_at [] n less = absurd (omega arith)
some_at (x ∷ xs) zero less = (x, refl)
some_at (x ∷ xs) (suc n) less = some_at xs n (omega arith)

-- two items of a list whose items differ in pairs
pub pair_at : {X : Type 0} (R : X → X → Type 0) (xs : List X) (n m : ℕ) (x y : X) → AllPairs R xs → slice_get xs n ≡ Some x → slice_get xs m ≡ Some y → n < m → R x y
pair_at R xs n m x y pairs first second less =
    subst (λ z. R z y) (get_or_from_slice_get xs n x x first)
    (subst (λ z. R (get_or xs n x) z) (get_or_from_slice_get xs m y x second) (pairs n m x less (slice_get_within xs m y second)))

-- an item as a loop or an index reads it
pub item_there : {X : Type 0} (xs ys : List X) (n : ℕ) (d : X) → ys ≡ xs → n < length xs → slice_get xs n ≡ Some (get_or ys n d)
item_there {X} xs ys n d same less = subst (λ (zs : List X). slice_get xs n ≡ Some (get_or zs n d)) (sym same) (slice_get-get_or xs n d less)

pub item_read : {X : Type 0} (xs ys : List X) (n m : ℕ) (x : X) → ys ≡ xs → n ≡ m → m < length xs → x ≡ get_or ys n x → slice_get xs m ≡ Some x
item_read {X} xs ys n m x same place less is = slice_get-get_or xs m x less ∙ ap (λ (y : X). Some y) (sym (is ∙ (λ i. get_or (same i) (place i) x)))

-- what a look-up of an optional item gives
pub read_none : {A : Type 0} (xs : List (Option A)) (n : ℕ) → None ≡ slice_get xs n → None ≡ get_or xs n None
read_none [] n is = refl
read_none (x ∷ xs) zero is = absurd cc
read_none (x ∷ xs) (suc n) is = read_none xs n is

pub read_some : {A : Type 0} (xs : List (Option A)) (n : ℕ) (x : Option A) → Some x ≡ slice_get xs n → x ≡ get_or xs n None
read_some xs n x is = sym (get_or_from_slice_get xs n x None (sym is))

pub read_within : {A : Type 0} (xs : List (Option A)) (n : ℕ) (x : A) → get_or xs n None ≡ Some x → n < length xs
read_within [] n x is = no_entry x is
read_within (y ∷ ys) zero x is = omega arith
read_within (y ∷ ys) (suc n) x is = omega (arith, read_within ys n x is)

-- one more item, where it gives one and where it gives none
given_one : {A B : Type 0} (h : A → Option B) (xs : List A) (x : A) (y : B) → Some y ≡ h x → filter_map h (xs ++ x ∷ []) ≡ filter_map h xs ++ y ∷ []
given_one h xs x y is = filter_map-append h xs (x ∷ []) ∙ ap (λ ys. filter_map h xs ++ ys) (rw (← is) refl)

given_none : {A B : Type 0} (h : A → Option B) (xs : List A) (x : A) → None ≡ h x → filter_map h (xs ++ x ∷ []) ≡ filter_map h xs
given_none h xs x is = filter_map-append h xs (x ∷ []) ∙ ap (λ ys. filter_map h xs ++ ys) (rw (← is) refl) ∙ append-nil (filter_map h xs)

pub next_given : {A B : Type 0} (h : A → Option B) (xs : List A) (n : ℕ) (d : A) (y : B) → n < length xs → Some y ≡ h (get_or xs n d) →
    filter_map h (take (n + 1) xs) ≡ filter_map h (take n xs) ++ y ∷ []
next_given h xs n d y inside is = ap (filter_map h) (take_more xs n d inside) ∙ given_one h (take n xs) (get_or xs n d) y is

pub next_none : {A B : Type 0} (h : A → Option B) (xs : List A) (n : ℕ) (d : A) → n < length xs → None ≡ h (get_or xs n d) →
    filter_map h (take (n + 1) xs) ≡ filter_map h (take n xs)
next_none h xs n d inside is = ap (filter_map h) (take_more xs n d inside) ∙ given_none h (take n xs) (get_or xs n d) is

-- what the items of a list give
pub given_from : {A B : Type 0} (h : A → Option B) (xs : List A) (n : ℕ) (y : B) → slice_get (filter_map h xs) n ≡ Some y →
    (k : ℕ) × (x : A) × (slice_get xs k ≡ Some x) × (h x ≡ Some y)
given_from h [] n y is = no_entry y is
given_from {A} {B} h (x ∷ xs) n y is = go (h x) refl n is (λ m at. given_from h xs m y at)
  where
    go : (o : Option B) → h x ≡ o → (n : ℕ) → slice_get (cons_option o (filter_map h xs)) n ≡ Some y →
        ((m : ℕ) → slice_get (filter_map h xs) m ≡ Some y → (k : ℕ) × (z : A) × (slice_get xs k ≡ Some z) × (h z ≡ Some y)) →
        (k : ℕ) × (z : A) × (slice_get (x ∷ xs) k ≡ Some z) × (h z ≡ Some y)
    go None none n is rest = let (k, z, there, gives) = rest n is in (suc k, z, there, gives)
    go (Some w) gives zero is rest = (0, x, refl, gives ∙ is)
    go (Some w) gives (suc n) is rest = let (k, z, there, has) = rest n is in (suc k, z, there, has)

given_over : {A B : Type 0} (h : A → Option B) (o : Option B) (xs : List A) (y : B) → (n : ℕ) × (slice_get (filter_map h xs) n ≡ Some y) →
    (n : ℕ) × (slice_get (cons_option o (filter_map h xs)) n ≡ Some y)
given_over h None xs y found = found
given_over h (Some w) xs y (n, at) = (suc n, at)

pub given_to : {A B : Type 0} (h : A → Option B) (xs : List A) (k : ℕ) (x : A) (y : B) → slice_get xs k ≡ Some x → h x ≡ Some y →
    (n : ℕ) × (slice_get (filter_map h xs) n ≡ Some y)
given_to h [] k x y is gives = no_entry x is
given_to h (z ∷ xs) zero x y is gives = (0, ap (λ o. slice_get (cons_option o (filter_map h xs)) 0) (ap h (same_Some z x is) ∙ gives))
given_to h (z ∷ xs) (suc k) x y is gives = given_over h (h z) xs y (given_to h xs k x y is gives)
