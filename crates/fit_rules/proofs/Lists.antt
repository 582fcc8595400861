-- Elements of lists, by place and by membership.
use Rattle.std.proofs.Common.{◌≡◌, ℕ, zero, suc, ◌<◌, List, [], ◌∷◌, Some, length, slice_get, ◌∙◌, ap, subst, arith, refl}
use Rattle.std.specs.Prelude.{take, Contains}
use Rattle.std.specs.List.{AllByRecursion}
use Rattle.std.proofs.lemmas.Option.{same_Some, slice_get_within, get_or_from_slice_get, slice_get-get_or}
use Rattle.fit_rules.proofs.Entries.{no_entry}

pub contains_at : {X : Type 0} (xs : List X) (n : ℕ) (x : X) → slice_get xs n ≡ Some x → Contains xs x
contains_at xs n x is = (n, slice_get_within xs n x is, get_or_from_slice_get xs n x x is)

pub place_of : {X : Type 0} (xs : List X) (x : X) → Contains xs x → (n : ℕ) × (slice_get xs n ≡ Some x)
place_of {X} xs x (n, within, is) = (n, slice_get-get_or xs n x within ∙ ap (λ (y : X). Some y) is)

pub take_at : {X : Type 0} (xs : List X) (n m : ℕ) → m < n → slice_get (take n xs) m ≡ slice_get xs m
take_at xs zero m less = absurd (omega arith)
take_at [] (suc n) m less = refl
take_at (x ∷ xs) (suc n) zero less = refl
take_at (x ∷ xs) (suc n) (suc m) less = take_at xs n m (omega arith)

pub taken : {X : Type 0} (xs : List X) (n m : ℕ) (x : X) → slice_get (take n xs) m ≡ Some x → slice_get xs m ≡ Some x
taken xs zero m x is = no_entry x is
taken [] (suc n) m x is = is
taken (y ∷ ys) (suc n) zero x is = is
taken (y ∷ ys) (suc n) (suc m) x is = taken ys n m x is

pub each_at : {X : Type 0} (P : X → Type 0) (xs : List X) (n : ℕ) (x : X) → AllByRecursion P xs → slice_get xs n ≡ Some x → P x
each_at P [] n x all is = no_entry x is
each_at P (y ∷ ys) zero x (here, rest) is = subst P (same_Some y x is) here
each_at P (y ∷ ys) (suc n) x (here, rest) is = each_at P ys n x rest is

pub all_from : {X : Type 0} (P : X → Type 0) (xs : List X) → ((n : ℕ) (x : X) → slice_get xs n ≡ Some x → P x) → AllByRecursion P xs
all_from P [] each = tt
all_from P (y ∷ ys) each = (each 0 y refl, all_from P ys (λ n x is. each (suc n) x is))

pub some_at : {X : Type 0} (xs : List X) (n : ℕ) → n < length xs → (x : X) × (slice_get xs n ≡ Some x)
some_at [] n less = absurd (omega arith)
some_at (x ∷ xs) zero less = (x, refl)
some_at (x ∷ xs) (suc n) less = some_at xs n (omega arith)
