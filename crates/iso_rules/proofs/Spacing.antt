-- A frame that is due in a cycle is due once more with each so many cycles as its ratio says.
use Rattle.std.proofs.Common.{◌≡◌, ℕ, zero, suc, ◌+◌, ◌-◌, ◌/◌, ◌%◌, ◌==◌, ◌≤◌, cond, inl, inr, sym, ◌∙◌, ap, subst, arith}
use Rattle.std.proofs.Math.Nat.{zero-div}
use Rattle.std.proofs.lemmas.Bool.{cases_lt}
use Rattle.std.proofs.lemmas.Bool.Decides.{nat_tests}
use Rattle.irt_base.specs.Cycle.{IsDue}
use Rattle.irt_base.specs.Valid.{IsRatio, IsRate}
use Rattle.irt_base.specs.declared.blocks.Entry.{Entry}
use Rattle.irt_switch.specs.Release.{is_due}
use Rattle.iso_rules.specs.Hold.{due_after}
use Rattle.iso_rules.proofs.Holding.{due_past, due_step}

-- one cycle on, for each ratio
abbrev Steps : ℕ → Type 0
Steps ratio = (phase c k : ℕ) → (c % ratio) + 1 ≡ phase → c ≤ k →
    (suc k - c) / ratio ≡ (k - c) / ratio + cond ((suc k % ratio) + 1 == phase) 1 0

steps_1 : Steps 1
steps_1 phase c k due within = grind (arith, nat_tests)

steps_2 : Steps 2
steps_2 phase c k due within = grind (arith, nat_tests)

steps_4 : Steps 4
steps_4 phase c k due within = grind (arith, nat_tests)

steps_8 : Steps 8
steps_8 phase c k due within = grind (arith, nat_tests)

steps_16 : Steps 16
steps_16 phase c k due within = grind (arith, nat_tests)

steps : (ratio : ℕ) → IsRatio ratio → Steps ratio
steps ratio (inl is) = subst Steps (sym is) steps_1
steps ratio (inr (inl is)) = subst Steps (sym is) steps_2
steps ratio (inr (inr (inl is))) = subst Steps (sym is) steps_4
steps ratio (inr (inr (inr (inl is)))) = subst Steps (sym is) steps_8
steps ratio (inr (inr (inr (inr is)))) = subst Steps (sym is) steps_16

none_past : (e : Entry) (c k : ℕ) → k ≤ c → due_after e c k ≡ (k - c) / e.ratio
none_past e c k past =
    let none : k - c ≡ 0 = omega arith in due_past e c k past ∙ sym (ap (λ n. n / e.ratio) none ∙ zero-div e.ratio)

pub spaced : (e : Entry) (c k : ℕ) → IsRate e.ratio e.phase → IsDue c e.ratio e.phase → c ≤ k → due_after e c k ≡ (k - c) / e.ratio
spaced e c zero rate due within = none_past e c 0 (omega arith)
spaced e c (suc k) rate due within =
    elim (cases_lt k c) [
      | inl past ↦ none_past e c (suc k) (omega arith)
      | inr still ↦
          due_step e c k still
          ∙ ap (λ n. n + cond (is_due (suc k) e) 1 0) (spaced e c k rate due still)
          ∙ sym (steps e.ratio rate.0 e.phase c k due still)
    ]
