-- Lists in which each number is below the next.
use Rattle.std.specs.Prelude.{AllPairs}
use Rattle.std.proofs.Common.{◌≡◌, ℕ, zero, suc, ◌+◌, ◌<◌, ◌↔◌, List, Bool, IsTrue, inl, inr, length}
use Rattle.std.proofs.Common.{get_or, subst, arith}
use Rattle.std.proofs.lemmas.Bool.{cases_lt}

module _ {A : Type 0} (number_of : A → ℕ) (xs : List A) where
  abbrev number_at : ℕ → A → ℕ
  number_at k d = number_of (get_or xs k d)

  abbrev IsBelowNext : Type 0
  IsBelowNext = (k : ℕ) (d : A) → k + 1 < length xs → number_at k d < number_at (k + 1) d

  below_later : IsBelowNext → (i j : ℕ) (d : A) → i < j → j < length xs → number_at i d < number_at j d
  below_later next i zero d below within = absurd (omega arith)
  below_later next i (suc j) d below within =
      let e : j + 1 ≡ suc j = omega arith in
      let step : number_at j d < number_at (suc j) d =
      subst (λ (n : ℕ). number_at j d < number_at n d) e (next j d (omega arith)) in
      elim (cases_lt i j) [
        | inl before ↦ (let so = below_later next i j d before (omega arith) in omega arith)
        | inr at ↦ (let is : j ≡ i = omega arith in subst (λ (n : ℕ). number_at n d < number_at (suc j) d) is step)
      ]

  -- a test of neighbours tests all pairs
  pub all_below : (r : Bool) → (IsTrue r ↔ IsBelowNext)
      → IsTrue r ↔ AllPairs (λ (a b : A). number_of a < number_of b) xs
  all_below r tells =
      (λ yes. below_later (tells.0 yes), λ all. tells.1 (λ k d within. all k (k + 1) d (omega arith) within))
