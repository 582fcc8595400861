-- The least number that passes a test, step by step.
use Rattle.std.proofs.Common.{◌≡◌, ◌<◌, ◌≤◌, ◌+◌, ◌-◌, ℕ, zero, suc, Bool, true, false, Some, None, refl, sym, ◌∙◌, arith, add-one}
use Rattle.std.proofs.Common.{inl, inr, subst}
use Rattle.std.proofs.lemmas.Bool.{cases_Bool, cases_eq}
use Rattle.std.proofs.lemmas.Option.{same_Some}
use Rattle.irt_topo.specs.Clocks.{least_from}

-- some number is left
suc_left : (n end : ℕ) → n < end → end - n ≡ suc (end - (n + 1))
suc_left n end h = omega arith

pub least_passes : (test : ℕ → Bool) (n end : ℕ) → n < end → test n ≡ true → least_from test n (end - n) ≡ Some n
least_passes test n end h is = rw (suc_left n end h, is) refl

pub least_fails : (test : ℕ → Bool) (n end : ℕ) → n < end → test n ≡ false
    → least_from test n (end - n) ≡ least_from test (n + 1) (end - (n + 1))
least_fails test n end h is = rw (suc_left n end h, is) rw add-one refl

pub least_none : (test : ℕ → Bool) (n end : ℕ) → end ≤ n → least_from test n (end - n) ≡ None
least_none test n end h =
    let none : end - n ≡ 0 = omega arith in
    rw none refl

some-none : {A : Type 0} (x : A) → Some x ≡ None → ⊥
some-none x e = cc

-- none is found exactly where none passes
pub none_passes : (test : ℕ → Bool) (n more : ℕ) → least_from test n more ≡ None → (i : ℕ) → n ≤ i → i < n + more → test i ≡ false
none_passes test n zero e i above below = absurd (omega arith)
none_passes test n (suc more) e i above below =
    elim (cases_Bool (test n)) [
      | inl passes ↦ absurd (some-none n (sym (rw passes refl) ∙ e))
      | inr fails ↦ elim (cases_eq i n) [
        | inl here ↦ rw here fails
        | inr other ↦ none_passes test (suc n) more (sym (rw fails refl) ∙ e) i (omega arith) (omega arith)
      ]
    ]

pub least_from-is_none : (test : ℕ → Bool) (n more : ℕ) → ((i : ℕ) → n ≤ i → i < n + more → test i ≡ false) → least_from test n more ≡ None
least_from-is_none test n zero h = refl
least_from-is_none test n (suc more) h =
    rw (h n (omega arith) (omega arith)) (least_from-is_none test (suc n) more (λ i above below. h i (omega arith) (omega arith)))

-- what is found passes, and no number before it does
pub found_passes : (test : ℕ → Bool) (n more k : ℕ) → least_from test n more ≡ Some k
    → (test k ≡ true) × (n ≤ k) × (k < n + more) × ((i : ℕ) → n ≤ i → i < k → test i ≡ false)
found_passes test n zero k e = absurd (some-none k (sym e))
found_passes test n (suc more) k e =
    elim (cases_Bool (test n)) [
      | inl passes ↦
          let same : n ≡ k = same_Some _ _ (sym (rw passes refl) ∙ e) in
          (subst (λ (j : ℕ). test j ≡ true) same passes, omega arith, omega arith, λ i above below. absurd (omega arith))
      | inr fails ↦
          let rest = found_passes test (suc n) more k (sym (rw fails refl) ∙ e) in (
            rest.0,
            omega arith,
            omega arith,
            λ i above below. elim (cases_eq i n) [ inl here ↦ rw here fails | inr other ↦ rest.3 i (omega arith) below ],
          )
    ]
