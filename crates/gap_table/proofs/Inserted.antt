-- What holds of a list after an insertion.
use Rattle.std.proofs.Common.{◌≡◌, ◌+◌, ◌-◌, ◌<◌, ◌≤◌, ℕ, inl, inr, List, length, get_or, AllPairs, sym, ◌∙◌, ap, subst, arith}
use Rattle.std.specs.Prelude.{All, insert}
use Rattle.std.specs.List.{AllWithin}
use Rattle.std.proofs.lemmas.Bool.{cases_lt, cases_eq}
use Rattle.std.proofs.lemmas.List.Edits.{length-insert, get_or-insert_below, get_or-insert_at, get_or-insert_above}

module _ {X : Type 0} (xs : List X) (i : ℕ) (y : X) (inside : i ≤ length xs) where
  before : (k : ℕ) (d : X) → k < i → get_or (insert xs i y) k d ≡ get_or xs k d
  before k d less = get_or-insert_below xs i y d k less inside

  at : (k : ℕ) (d : X) → k ≡ i → get_or (insert xs i y) k d ≡ y
  at k d is = ap (λ (n : ℕ). get_or (insert xs i y) n d) is ∙ get_or-insert_at xs i y d inside

  after : (k : ℕ) (d : X) → i < k → get_or (insert xs i y) k d ≡ get_or xs (k - 1) d
  after k d more =
      let next : k ≡ (k - 1) + 1 = omega arith in
      ap (λ (n : ℕ). get_or (insert xs i y) n d) next ∙ get_or-insert_above xs i y d (k - 1) (omega arith) inside

  pub All-insert : (P : X → Type 0) → All P xs → P y → All P (insert xs i y)
  All-insert P all own k d within =
      let long = length-insert xs i y inside in
      elim (cases_lt k i) [
        | inl less ↦ subst P (sym (before k d less)) (all k d (omega arith))
        | inr more ↦ elim (cases_eq k i) [
          | inl is ↦ subst P (sym (at k d is)) own
          | inr other ↦ subst P (sym (after k d (omega arith))) (all (k - 1) d (omega (arith, long)))
        ]
      ]

  pub AllPairs-insert : (R : X → X → Type 0) → AllPairs R xs → AllWithin (λ x. R x y) xs 0 i → AllWithin (λ x. R y x) xs i (length xs) → AllPairs R (insert xs i y)
  AllPairs-insert R pairs earlier rest j k d less within =
      let long = length-insert xs i y inside in
      elim (cases_lt k i) [
        | inl low ↦
            subst (λ (x : X). R x (get_or (insert xs i y) k d)) (sym (before j d (omega arith)))
            (subst (λ (x : X). R (get_or xs j d) x) (sym (before k d low)) (pairs j k d less (omega arith)))
        | inr high ↦ elim (cases_eq k i) [
          | inl is ↦
              subst (λ (x : X). R x (get_or (insert xs i y) k d)) (sym (before j d (omega arith)))
              (subst (λ (x : X). R (get_or xs j d) x) (sym (at k d is)) (earlier j d (omega arith) (omega arith)))
          | inr other ↦ subst (λ (x : X). R (get_or (insert xs i y) j d) x) (sym (after k d (omega arith))) (elim (cases_lt j i) [
            | inl low ↦ subst (λ (x : X). R x (get_or xs (k - 1) d)) (sym (before j d low)) (pairs j (k - 1) d (omega arith) (omega (arith, long)))
            | inr up ↦ elim (cases_eq j i) [
              | inl is ↦ subst (λ (x : X). R x (get_or xs (k - 1) d)) (sym (at j d is)) (rest (k - 1) d (omega arith) (omega (arith, long)))
              | inr away ↦ subst (λ (x : X). R x (get_or xs (k - 1) d)) (sym (after j d (omega arith))) (pairs (j - 1) (k - 1) d (omega arith) (omega (arith, long)))
            ]
          ])
        ]
      ]
