-- What holds of any two members holds of them in another order.
use Rattle.std.proofs.Common.{◌≡◌, ◌≢◌, ◌<◌, ◌==◌, cond, inl, inr, ℕ, List, length, get_or, AllPairs, refl, sym, ◌∙◌, ap, subst, arith}
use Rattle.std.specs.List.{swap}
use Rattle.std.specs.List.Sorted.{IsPermutation}
use Rattle.std.proofs.lemmas.Bool.{cases_lt, cases_eq}
use Rattle.std.proofs.lemmas.Bool.Decides.{nat_tests}
use Rattle.std.proofs.lemmas.List.Edits.{swapped_from_swap, length-swap}
use Rattle.std.proofs.lemmas.List.Sorted.{IsPermutation-keeps}

-- where the element at a place stood before a swap
place : ℕ → ℕ → ℕ → ℕ
place a b i = cond (i == a) b (cond (i == b) a i)

place_first : (a b : ℕ) → place a b a ≡ b
unfolding place
place_first a b = grind (arith, nat_tests)

place_second : (a b : ℕ) → place a b b ≡ a
unfolding place
place_second a b = grind (arith, nat_tests)

place_other : (a b i : ℕ) → i ≢ a → i ≢ b → place a b i ≡ i
unfolding place
place_other a b i first second = grind (arith, nat_tests)

place_inside : (a b i n : ℕ) → a < n → b < n → i < n → place a b i < n
unfolding place
place_inside a b i n first second inside = grind (arith, nat_tests)

place_apart : (a b i j : ℕ) → i ≢ j → place a b i ≢ place a b j
unfolding place
place_apart a b i j apart same = apart (grind (arith, nat_tests))

module _ {X : Type 0} (R : X → X → Type 0) (turn : (x y : X) → R x y → R y x) where
  -- at any two places
  abbrev AtAnyTwo : List X → Type 0
  AtAnyTwo xs = (i j : ℕ) (d : X) → i ≢ j → i < length xs → j < length xs → R (get_or xs i d) (get_or xs j d)

  at_any_two : (xs : List X) → AllPairs R xs → AtAnyTwo xs
  at_any_two xs h i j d apart inside within =
      elim (cases_lt i j) [
        | inl less ↦ h i j d less within
        | inr more ↦ turn _ _ (h j i d (omega arith) inside)
      ]

  moved : (xs : List X) (a b i : ℕ) (d : X) → a < length xs → b < length xs → get_or (swap xs a b) i d ≡ get_or xs (place a b i) d
  moved xs a b i d first second =
      let s = swapped_from_swap xs (swap xs a b) a b d first second refl in
      elim (cases_eq i a) [
        | inl is ↦ ap (λ (n : ℕ). get_or (swap xs a b) n d) is ∙ s.0 ∙ sym (ap (λ (n : ℕ). get_or xs n d) (ap (place a b) is ∙ place_first a b))
        | inr other ↦ elim (cases_eq i b) [
          | inl is ↦ ap (λ (n : ℕ). get_or (swap xs a b) n d) is ∙ s.1 ∙ sym (ap (λ (n : ℕ). get_or xs n d) (ap (place a b) is ∙ place_second a b))
          | inr neither ↦ s.2 i other neither ∙ sym (ap (λ (n : ℕ). get_or xs n d) (place_other a b i other neither))
        ]
      ]

  swapped : (xs : List X) (a b : ℕ) → a < length xs → b < length xs → AtAnyTwo xs → AtAnyTwo (swap xs a b)
  swapped xs a b first second h i j d apart inside within =
      let long = length-swap xs a b in
      let p = place_inside a b i (length xs) first second (omega (arith, long)) in
      let q = place_inside a b j (length xs) first second (omega (arith, long)) in
      let here = h (place a b i) (place a b j) d (place_apart a b i j apart) p q in
      subst (λ (x : X). R x (get_or (swap xs a b) j d)) (sym (moved xs a b i d first second))
      (subst (λ (y : X). R (get_or xs (place a b i) d) y) (sym (moved xs a b j d first second)) here)

  pub AllPairs-permutation : (xs ys : List X) → IsPermutation xs ys → AllPairs R xs → AllPairs R ys
  AllPairs-permutation xs ys shuffle h =
      let far = IsPermutation-keeps xs AtAnyTwo (at_any_two xs h) (λ l a b first second k. swapped l a b first second k) ys shuffle in
      λ i j d less within. far i j d (λ e. omega arith) (omega arith) within
