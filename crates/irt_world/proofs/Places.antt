-- Elements of a list at their places.
use Rattle.std.proofs.Common.{◌≡◌, ℕ, ◌+◌, zero, suc, ◌<◌, Bool, true, false, List, [], ◌∷◌, Some, None, position, slice_get, get_or, length, All, subst, ◌∙◌, ap, inl, inr, refl, arith}
use Rattle.std.specs.List.{list_any, position_from}
use Rattle.std.proofs.lemmas.Bool.{false≢true, cases_Bool}
use Rattle.std.proofs.lemmas.Option.{same_Some, slice_get_cases, slice_get_within, get_or_from_slice_get}
use Rattle.std.proofs.lemmas.Iterator.Adapters.{position_from-zero}

pub record HasFirst {X : Type 0} (p : X → Bool) (i : ℕ) (xs : List X) : Type 0 where
  pub n : ℕ
  pub x : X
  pub at : position_from p i xs ≡ Some (i + n)
  pub is : slice_get xs n ≡ Some x
  pub passes : p x ≡ true

pub first_from : {X : Type 0} (p : X → Bool) (i : ℕ) (xs : List X) → list_any p xs ≡ true → HasFirst p i xs
first_from p i [] any = absurd (false≢true any)
first_from p i (x ∷ xs) any =
    elim (cases_Bool (p x)) [
      | inl here ↦ record { n = 0; x = x; at = rw here (ap Some (omega arith)); is = refl; passes = here }
      | inr later_on ↦
          let later = first_from p (i + 1) xs (rw later_on at any) in
          record { n = suc later.n; x = later.x; at = rw later_on (later.at ∙ ap Some (omega arith)); is = later.is; passes = later.passes }
    ]

pub first_there : {X : Type 0} (p : X → Bool) (xs : List X) → list_any p xs ≡ true →
    (n : ℕ) × (x : X) × (position p xs ≡ Some n) × (slice_get xs n ≡ Some x) × (p x ≡ true)
first_there p xs any =
    let first = first_from p 0 xs any in
    (first.n, first.x, position_from-zero p xs ∙ first.at ∙ ap Some (omega arith), first.is, first.passes)

pub all_at : {A : Type 0} (P : A → Type 0) (xs : List A) (k : ℕ) (x : A) → All P xs → slice_get xs k ≡ Some x → P x
all_at P xs k x all is = subst P (get_or_from_slice_get xs k x x is) (all k x (slice_get_within xs k x is))

pub some_at : {A : Type 0} (xs : List A) (k : ℕ) → k < length xs → (x : A) × (slice_get xs k ≡ Some x)
some_at xs k below =
    elim (slice_get_cases xs k).1 [
      | inl (x, within, is, same) ↦ (x, is)
      | inr (past, none) ↦ absurd (omega arith)
    ]

at_from : {X : Type 0} (p : X → Bool) (i : ℕ) (xs : List X) (n : ℕ) (x : X) → slice_get xs n ≡ Some x → p x ≡ true →
    ((k : ℕ) (d : X) → k < n → p (get_or xs k d) ≡ false) → position_from p i xs ≡ Some (i + n)
at_from p i [] n x is passes before = absurd (cc)
at_from p i (y ∷ ys) zero x is passes before = rw (ap p (same_Some y x is) ∙ passes) (ap Some (omega arith))
at_from p i (y ∷ ys) (suc n) x is passes before =
    rw (before 0 y (omega arith)) (at_from p (i + 1) ys n x is passes (λ k d below. before (suc k) d (omega (arith, below))) ∙ ap Some (omega arith))

nowhere_from : {X : Type 0} (p : X → Bool) (i : ℕ) (xs : List X) → ((k : ℕ) (d : X) → k < length xs → p (get_or xs k d) ≡ false) →
    position_from p i xs ≡ None
nowhere_from p i [] fails = refl
nowhere_from p i (y ∷ ys) fails =
    rw (fails 0 y (omega arith)) (nowhere_from p (i + 1) ys (λ k d below. fails (suc k) d (omega (arith, below))))

-- an element that passes, where none before it does, is at the first place
pub position_at : {X : Type 0} (p : X → Bool) (xs : List X) (n : ℕ) (x : X) → slice_get xs n ≡ Some x → p x ≡ true →
    ((k : ℕ) (d : X) → k < n → p (get_or xs k d) ≡ false) → position p xs ≡ Some n
position_at p xs n x is passes before = position_from-zero p xs ∙ at_from p 0 xs n x is passes before ∙ ap Some (omega arith)

-- where none passes, there is no first place
pub position_nowhere : {X : Type 0} (p : X → Bool) (xs : List X) → ((k : ℕ) (d : X) → k < length xs → p (get_or xs k d) ≡ false) →
    position p xs ≡ None
position_nowhere p xs fails = position_from-zero p xs ∙ nowhere_from p 0 xs fails
