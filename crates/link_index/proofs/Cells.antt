-- Tables of rows, and what stands in them after a write.
use Rattle.std.proofs.Common.{◌≡◌, ◌<◌, ℕ, zero, suc, List, [], length, get_or, set, Option, Some, None, inl, inr, ◌⊎◌, refl, sym, ◌∙◌, ap, subst, arith}
use Rattle.std.proofs.lemmas.Bool.{cases_eq}
use Rattle.std.proofs.lemmas.List.{get_or-set_same, get_or-set_other, length-set}

module _ {A : Type 0} (rows : List (List (Option A))) (i j : ℕ) (x : Option A) where
  abbrev pub cell : List (List (Option A)) → ℕ → ℕ → Option A
  cell table m n = get_or (get_or table m []) n None

  -- the table with x at row i and place j
  abbrev pub put : List (List (Option A))
  put = set rows i (set (get_or rows i []) j x)

  pub row_there : i < length rows → get_or put i [] ≡ set (get_or rows i []) j x
  row_there there = get_or-set_same rows i (set (get_or rows i []) j x) [] there

  pub row_elsewhere : (m : ℕ) → ¬ (m ≡ i) → get_or put m [] ≡ get_or rows m []
  row_elsewhere m other = get_or-set_other rows i m (set (get_or rows i []) j x) [] other

  pub put_same : i < length rows → j < length (get_or rows i []) → cell put i j ≡ x
  put_same there placed = ap (λ (r : List (Option A)). get_or r j None) (row_there there) ∙ get_or-set_same (get_or rows i []) j x None placed

  pub put_other : i < length rows → (m n : ℕ) → ¬ ((m ≡ i) × (n ≡ j)) → cell put m n ≡ cell rows m n
  put_other there m n apart = elim (cases_eq m i) [
    | inl same ↦
        ap (λ (k : ℕ). cell put k n) same ∙ ap (λ (r : List (Option A)). get_or r n None) (row_there there)
        ∙ get_or-set_other (get_or rows i []) j n x None (λ is. apart (same, is)) ∙ ap (λ (k : ℕ). cell rows k n) (sym same)
    | inr other ↦ ap (λ (r : List (Option A)). get_or r n None) (row_elsewhere m other)
  ]

  pub put_cases : i < length rows → j < length (get_or rows i []) → (m n : ℕ) → (cell put m n ≡ x) ⊎ (cell put m n ≡ cell rows m n)
  put_cases there placed m n = elim (cases_eq m i) [
    | inl row ↦ elim (cases_eq n j) [
      | inl place ↦
          inl (ap (λ (k : ℕ). cell put k n) row ∙ ap (λ (k : ℕ). cell put i k) place ∙ put_same there placed)
      | inr other ↦ inr (put_other there m n (λ both. other both.1))
    ]
    | inr other ↦ inr (put_other there m n (λ both. other both.0))
  ]

  pub put_width : i < length rows → (m : ℕ) → length (get_or put m []) ≡ length (get_or rows m [])
  put_width there m = elim (cases_eq m i) [
    | inl same ↦
        ap (λ (k : ℕ). length (get_or put k [])) same ∙ ap length (row_there there) ∙ length-set (get_or rows i []) j x
        ∙ ap (λ (k : ℕ). length (get_or rows k [])) (sym same)
    | inr other ↦ ap length (row_elsewhere m other)
  ]
