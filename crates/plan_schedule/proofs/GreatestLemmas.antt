-- Greatest numbers, place by place.
use Rattle.std.proofs.Common.{◌≡◌, inl, inr, ℕ, ◌+◌, ◌≤◌, max, nat_cmp, refl, sym, ◌∙◌, subst, arith}
use Rattle.std.specs.Ordering.{ord_max}
use Rattle.std.proofs.lemmas.Bool.{cases_lt}
use Rattle.std.proofs.lemmas.Bool.Decides.{nat_tests}
use Rattle.fit_rules.specs.Blocks.{IsGreatest}
use Rattle.plan_schedule.specs.Greatest.{IsAnyBelow}

-- the larger of two numbers, as the code takes it
larger : (m n : ℕ) → ord_max nat_cmp m n ≡ max m n
larger m n = grind (arith, nat_tests)

-- no place yet
pub no_greatest : (P : ℕ → ℕ → Type 0) → IsGreatest (IsAnyBelow P 0) 0
no_greatest P = record { bound = λ x any. absurd (omega (arith, any.1)); some = inr (refl, λ x any. absurd (omega (arith, any.1))) }

-- one place more
module _ (P : ℕ → ℕ → Type 0) (i m n : ℕ) (a : IsGreatest (IsAnyBelow P i) m) (b : IsGreatest (P i) n) where
  below : (x : ℕ) → IsAnyBelow P i x → IsAnyBelow P (i + 1) x
  below x any = (any.0, omega (arith, any.1), any.2)

  here : (x : ℕ) → P i x → IsAnyBelow P (i + 1) x
  here x holds = (i, omega arith, holds)

  bounded : (x : ℕ) → IsAnyBelow P (i + 1) x → x ≤ max m n
  bounded x any = elim (cases_lt any.0 i) [
    | inl before ↦ omega (arith, a.bound x (any.0, before, any.2))
    | inr past ↦ let same : any.0 ≡ i = omega (arith, any.1) in omega (arith, b.bound x (subst (λ k. P k x) same any.2))
  ]

  nowhere : ((x : ℕ) → ¬ IsAnyBelow P i x) → ((x : ℕ) → ¬ P i x) → (x : ℕ) → ¬ IsAnyBelow P (i + 1) x
  nowhere first second x any = elim (cases_lt any.0 i) [
    | inl before ↦ first x (any.0, before, any.2)
    | inr past ↦ let same : any.0 ≡ i = omega (arith, any.1) in second x (subst (λ k. P k x) same any.2)
  ]

  greatest_more : IsGreatest (IsAnyBelow P (i + 1)) (max m n)
  greatest_more = elim (cases_lt m n) [
    | inl less ↦ elim b.some [
      | inl some ↦ let same : n ≡ max m n = omega arith in record { bound = bounded; some = inl (subst (IsAnyBelow P (i + 1)) same (here n some)) }
      | inr (zero_is, none) ↦ absurd (omega arith)
    ]
    | inr more ↦ elim a.some [
      | inl some ↦ let same : m ≡ max m n = omega arith in record { bound = bounded; some = inl (subst (IsAnyBelow P (i + 1)) same (below m some)) }
      | inr (zero_is, none) ↦ elim b.some [
        | inl some ↦ let same : n ≡ max m n = omega arith in record { bound = bounded; some = inl (subst (IsAnyBelow P (i + 1)) same (here n some)) }
        | inr (also, nothing) ↦ record { bound = bounded; some = inr (omega arith, nowhere none nothing) }
      ]
    ]
  ]

  pub greatest_next : (k : ℕ) → k ≡ ord_max nat_cmp m n → IsGreatest (IsAnyBelow P (i + 1)) k
  greatest_next k is = subst (IsGreatest (IsAnyBelow P (i + 1))) (sym (is ∙ larger m n)) greatest_more

-- the same numbers have the same greatest one
pub greatest_as : (P Q : ℕ → Type 0) (m : ℕ) → ((x : ℕ) → P x → Q x) → ((x : ℕ) → Q x → P x) → IsGreatest P m → IsGreatest Q m
greatest_as P Q m there back a = record {
  bound = λ x holds. a.bound x (back x holds);
  some = elim a.some [ inl some ↦ inl (there m some) | inr (is, none) ↦ inr (is, λ x holds. none x (back x holds)) ];
}
