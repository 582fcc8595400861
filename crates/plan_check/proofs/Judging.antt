-- From the scans of rules to one verdict.
use Rattle.std.proofs.Common.{◌≡◌, ◌+◌, ℕ, List, Option, Some, None, Ok, Err, Result, IfOk, refl, sym, ap, subst, arith}
use Rattle.irt_base.specs.declared.blocks.Bundle.{Bundle}
use Rattle.irt_base.specs.declared.memory.NoMemory.{NoMemory}
use Rattle.irt_base.specs.declared.plants.Plant.{Plant}
use Rattle.plan_rules.specs.Expected.{IsSafe}
use Rattle.plan_rules.specs.Places.{IsScan, IsLeastBreak, IsAccepted, IsReject, KeepsBelow}
use Rattle.plan_rules.specs.Rules.{KeepsRule}
use Rattle.plan_rules.specs.declared.place.Place.{Place}
use Rattle.plan_rules.specs.declared.place.Reject.{Reject}
use Rattle.plan_check.specs.Verdicts.{IsJudged}

module _ (plant : Plant) (bundles : List Bundle) where
  -- ---- one rule after the other

  -- no rule has the number 0
  pub keeps_none : KeepsBelow plant bundles 1
  keeps_none number at less =
      let none : 0 ≡ number = omega (arith, less) in
      subst (λ (n : ℕ). KeepsRule plant bundles n at) none tt

  abbrev pub Next : Type 0
  Next = (number : ℕ) → KeepsBelow plant bundles number → ((at : Place) → KeepsRule plant bundles number at) → KeepsBelow plant bundles (number + 1)

  pub keeps_headers : Next → ((at : Place) → KeepsRule plant bundles 1 at) → KeepsBelow plant bundles 2
  keeps_headers next = next 1 keeps_none

  pub fails_first : (number : ℕ) (at : Place) → KeepsBelow plant bundles number → IsLeastBreak (KeepsRule plant bundles number) at
      → IsReject plant bundles (record { rule = number; place = at })
  fails_first number at before fails = record { fails = fails; first = before }

  -- what a scan says of the rule whose number it is of
  pub scan_of : (number known : ℕ) (found : Option Place) → number ≡ known → IsScan (KeepsRule plant bundles known) found
      → IsScan (KeepsRule plant bundles number) found
  scan_of number known found is scan = subst (λ (n : ℕ). IsScan (KeepsRule plant bundles n) found) (sym is) scan

  pub scan_of_ok : (number known : ℕ) (found : Result (Option Place) NoMemory) → number ≡ known → IfOk found (IsScan (KeepsRule plant bundles known))
      → IfOk found (IsScan (KeepsRule plant bundles number))
  scan_of_ok number known found is scan = subst (λ (n : ℕ). IfOk found (IsScan (KeepsRule plant bundles n))) (sym is) scan

  -- ---- one verdict

  module _ (one : (r s : Reject) → IsReject plant bundles r → IsReject plant bundles s → r ≡ s)
      (either : (r : Reject) → IsReject plant bundles r → ¬ IsAccepted plant bundles) where
    only_judged : (found : Option Reject) → IsJudged plant bundles found → IsAccepted plant bundles → found ≡ None
    only_judged None judged accepted = refl
    only_judged (Some r) judged accepted = absurd (either r judged accepted)

    exact_judged : (found : Option Reject) (r : Reject) → IsJudged plant bundles found → IsReject plant bundles r → found ≡ Some r
    exact_judged None r judged rejects = absurd (either r rejects judged)
    exact_judged (Some s) r judged rejects = ap (λ (q : Reject). Some q) (one s r judged rejects)

    -- what is answered, and what of it is judged
    module _ {X : Type 0} (judgement : X → Option Reject) where
      pub only_of : (answer : Result X NoMemory) → IfOk answer (λ x. IsJudged plant bundles (judgement x)) → IsAccepted plant bundles
          → IfOk answer (λ x. judgement x ≡ None)
      only_of (Ok x) judged accepted = only_judged (judgement x) judged accepted
      only_of (Err e) judged accepted = tt

      pub exact_of : (answer : Result X NoMemory) → IfOk answer (λ x. IsJudged plant bundles (judgement x)) → (r : Reject) → IsReject plant bundles r
          → IfOk answer (λ x. judgement x ≡ Some r)
      exact_of (Ok x) judged r rejects = exact_judged (judgement x) r judged rejects
      exact_of (Err e) judged r rejects = tt

  -- an accepted plan is safe
  pub safe_of : {X : Type 0} (judgement : X → Option Reject) (answer : Result X NoMemory) → IfOk answer (λ x. IsJudged plant bundles (judgement x))
      → (IsAccepted plant bundles → IsSafe plant bundles) → IfOk answer (λ x. judgement x ≡ None → IsSafe plant bundles)
  safe_of judgement (Ok x) judged law = λ none. law (subst (λ (o : Option Reject). IsJudged plant bundles o) none judged)
  safe_of judgement (Err e) judged law = tt
