-- Lists of which no two items have one key.
use Rattle.std.proofs.Common.{◌≡◌, ◌≢◌, ℕ, zero, suc, Bool, true, false, List, [], ◌∷◌, Some, find, slice_get, sym, ◌∙◌, ap, refl, inl, inr}
use Rattle.std.specs.Prelude.{◌==◌}
use Rattle.std.specs.List.{AllByRecursion, IsDistinct}
use Rattle.std.proofs.lemmas.Bool.{both_ways, cases_Bool, cond-false, cond-true, eq-eqb, eqb-true}
use Rattle.std.proofs.lemmas.Option.{same_Some}
use Rattle.plan_rules.proofs.Held.{each_at}

module _ {X : Type 0} (same : X → X → Bool) (key : X → ℕ) (agree : (x y : X) → key x ≡ key y → same x y ≡ true) where
  apart : (x : X) (xs : List X) (n : ℕ) (y : X) → AllByRecursion (λ z. same x z ≡ false) xs → slice_get xs n ≡ Some y → key x ≢ key y
  apart x xs n y differ at equal = absurd (both_ways _ (each_at (λ z. same x z ≡ false) xs n y differ at) (agree x y equal))

  -- they have one place
  pub places_are_one : (xs : List X) → IsDistinct same xs → (n m : ℕ) (x y : X) → slice_get xs n ≡ Some x → slice_get xs m ≡ Some y →
      key x ≡ key y → n ≡ m
  unfolding IsDistinct
  places_are_one [] distinct n m x y first second equal = absurd (cc)
  places_are_one (z ∷ xs) distinct zero zero x y first second equal = refl
  places_are_one (z ∷ xs) distinct zero (suc m) x y first second equal =
      absurd (apart z xs m y distinct.0 second (ap key (same_Some z x first) ∙ equal))
  places_are_one (z ∷ xs) distinct (suc n) zero x y first second equal =
      absurd (apart z xs n x distinct.0 first (ap key (same_Some z y second) ∙ sym equal))
  places_are_one (z ∷ xs) distinct (suc n) (suc m) x y first second equal = ap suc (places_are_one xs distinct.1 n m x y first second equal)

  -- a search for a key finds it
  pub key_found : (xs : List X) → IsDistinct same xs → (n k : ℕ) (x : X) → slice_get xs n ≡ Some x → key x ≡ k → find (λ z. key z == k) xs ≡ Some x
  unfolding IsDistinct
  key_found [] distinct n k x at is = absurd (cc)
  key_found (z ∷ xs) distinct zero k x at is =
      cond-true (key z == k) (Some z) (find (λ y. key y == k) xs) (eq-eqb (key z) k (ap key (same_Some z x at) ∙ is)) ∙ at
  key_found (z ∷ xs) distinct (suc n) k x at is = elim (cases_Bool (key z == k)) [
    | inl also ↦ absurd (apart z xs n x distinct.0 at (eqb-true (key z) k also ∙ sym is))
    | inr fails ↦ cond-false (key z == k) (Some z) (find (λ y. key y == k) xs) fails ∙ key_found xs distinct.1 n k x at is
  ]
