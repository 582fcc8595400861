-- The first failure that the tests find is the first by the rules' facts, and there is no other.
use Rattle.std.proofs.Common.{◌≡◌, ◌<◌, ◌≤◌, ◌+◌, ◌⊎◌, inl, inr, ℕ, zero, suc, Bool, true, false, not, List, [], ◌∷◌, length, slice_index_or, Option, Some, None, refl, sym, ◌∙◌, ap, subst, arith, true≢false}
use Rattle.std.proofs.lemmas.Bool.{cases_lt, not-true, not-false}
use Rattle.std.proofs.lemmas.Option.{same_Some}
use Rattle.irt_base.specs.declared.plants.Plant.{Plant}
use Rattle.plant_rules.specs.Meets.{MeetsRules}
use Rattle.plant_rules.specs.Rules.{KeepsRule, FailsFirst, AsksNothing, rule_table}
use Rattle.irt_topo.specs.Rules.{holds, places, number_of, least_failing, or_next, first_failing, rule_order, first_failure}
use Rattle.irt_topo.specs.declared.rules.Rule.{Rule}
use Rattle.irt_topo.specs.declared.rules.Rule.TheVariants as rules
use Rattle.irt_topo.proofs.LeastFrom.{found_passes, none_passes}
use Rattle.irt_topo.proofs.Facts.{HasRoom, says, gives, everywhere}
use Rattle.irt_topo.proofs.RuleLaws.{AllHold, none_fails-back, or_next_none}
use Rattle.irt_topo.proofs.Meeting.{MeetsRules-from_none, first_failure-from_MeetsRules}

-- rules of these numbers in turn
abbrev pub AreFrom : ℕ → List Rule → Type 0
AreFrom n [] = Unit {0}
AreFrom n (rule ∷ rest) = (number_of rule ≡ n) × AreFrom (suc n) rest

-- the rules below a number hold everywhere
abbrev pub KeepsBelow : Plant → ℕ → Type 0
KeepsBelow p n = (number at : ℕ) → number < n → KeepsRule p number at

in_order : AreFrom 2 rule_order
in_order =
    (refl, (refl, (refl, (refl, (refl, (refl, (refl, (refl, (refl, (refl, (refl, (refl, (refl, (refl, (refl, (refl, (refl, tt)))))))))))))))))

room_of : (rule : Rule) (p : Plant) → KeepsBelow p (number_of rule) → HasRoom rule p
room_of rules.DeviceClock p below = (below 5 0 (omega arith)).1
room_of rule p below = tt

first_two : (p : Plant) → KeepsBelow p 2
first_two p zero at below = tt
first_two p (suc zero) at below = tt
first_two p (suc (suc n)) at below = absurd (omega arith)

one_more : (p : Plant) (n : ℕ) → KeepsBelow p n → ((at : ℕ) → KeepsRule p n at) → KeepsBelow p (suc n)
one_more p n below here number at less =
    elim (cases_lt number n) [
      | inl lesser ↦ below number at lesser
      | inr above ↦
          let same : n ≡ number = omega (arith, above, less) in
          subst (λ m. KeepsRule p m at) same (here at)
    ]

passed : (rule : Rule) (p : Plant) → least_failing rule p ≡ None → (i : ℕ) → i < places rule p → holds rule p i ≡ true
passed rule p none i below = not-false _ (none_passes (λ j. not (holds rule p j)) 0 (places rule p) none i (omega arith) (omega arith))

step : (rule : Rule) (p : Plant) (n : ℕ) → number_of rule ≡ n → KeepsBelow p n → least_failing rule p ≡ None → KeepsBelow p (suc n)
step rule p n is below none =
    let room = room_of rule p (subst (λ m. KeepsBelow p m) (sym is) below) in
    one_more p n below (λ at. subst (λ m. KeepsRule p m at) is (everywhere rule p room (passed rule p none) at))

fails_here : (rule : Rule) (p : Plant) (i : ℕ) → KeepsBelow p (number_of rule) → least_failing rule p ≡ Some i → FailsFirst p (number_of rule) i
fails_here rule p i below found =
    let (fails, _, within, before) = found_passes (λ j. not (holds rule p j)) 0 (places rule p) i found in
    let inside : i < places rule p = omega (arith, within) in
    let room = room_of rule p below in
    record {
      fails = λ keeps. true≢false (sym (gives rule p i inside keeps) ∙ not-true _ fails);
      least = λ j less. says rule p j (omega arith) room (not-false _ (before j (omega arith) less));
      first = λ number at less. below number at less;
    }

some_first : (rule : Rule) (here : Option ℕ) (next : Option (Rule × ℕ)) (f : Rule × ℕ) → or_next rule here next ≡ Some f
    → ((here ≡ None) × (next ≡ Some f)) ⊎ (here ≡ Some f.1) × (rule ≡ f.0)
some_first rule None next f e = inl (refl, e)
some_first rule (Some i) next f e =
    let same = same_Some (rule, i) f e in inr (ap (λ (g : Rule × ℕ). Some g.1) same, ap (λ (g : Rule × ℕ). g.0) same)

first_of : (order : List Rule) (p : Plant) (n : ℕ) (f : Rule × ℕ) → AreFrom n order → KeepsBelow p n → first_failing order p ≡ Some f
    → FailsFirst p (number_of f.0) f.1
first_of [] p n f from below e = absurd cc
first_of (rule ∷ rest) p n f from below e =
    elim (some_first rule (least_failing rule p) (first_failing rest p) f e) [
      | inl later ↦ first_of rest p (suc n) f from.1 (step rule p n from.0 below later.0) later.1
      | inr now ↦
          let here = fails_here rule p f.1 (subst (λ m. KeepsBelow p m) (sym from.0) below) now.0 in
          subst (λ (r : Rule). FailsFirst p (number_of r) f.1) now.1 here
    ]

pub failure_is_first : (p : Plant) (f : Rule × ℕ) → first_failure p ≡ Some f → FailsFirst p (number_of f.0) f.1
failure_is_first p f e = first_of rule_order p 2 f in_order (first_two p) e

all_of : (order : List Rule) (p : Plant) (n : ℕ) → AreFrom n order → KeepsBelow p n → first_failing order p ≡ None → KeepsBelow p (length order + n)
all_of [] p n from below e = λ number at less. below number at (omega (arith, less))
all_of (rule ∷ rest) p n from below e =
    let (here, more) = or_next_none rule (least_failing rule p) (first_failing rest p) e in
    let whole : KeepsBelow p (length rest + suc n) = all_of rest p (suc n) from.1 (step rule p n from.0 below here) more in
    λ number at less. whole number at (omega (arith, less))

-- no rule is past the table
past : (table : List (ℕ → Type 0)) (number at : ℕ) → length table ≤ number → slice_index_or table number AsksNothing at
past [] number at above = tt
past (Rule ∷ table) zero at above = absurd (omega (arith, above))
past (Rule ∷ table) (suc number) at above = past table number at (omega (arith, above))

pub keeps_all : (p : Plant) → MeetsRules p → (number at : ℕ) → KeepsRule p number at
keeps_all p meets number at =
    elim (cases_lt number 19) [
      | inl below ↦ all_of rule_order p 2 in_order (first_two p) (first_failure-from_MeetsRules p meets) number at below
      | inr above ↦ past (AsksNothing ∷ AsksNothing ∷ rule_table p) number at above
    ]

ordered : (a b : ℕ) → (a < b) ⊎ (b < a) ⊎ (a ≡ b)
ordered a b = grind arith

pub one_failure : (p : Plant) (n m i j : ℕ) → FailsFirst p n i → FailsFirst p m j → (n ≡ m) × (i ≡ j)
one_failure p n m i j a b =
    elim (ordered n m) [
      | inl less ↦ absurd (a.fails (b.first n i less))
      | inr (inl more) ↦ absurd (b.fails (a.first m j more))
      | inr (inr same) ↦
          let c : FailsFirst p n j = subst (λ k. FailsFirst p k j) (sym same) b in
          elim (ordered i j) [
            | inl less ↦ absurd (a.fails (c.least i less))
            | inr (inl more) ↦ absurd (c.fails (a.least j more))
            | inr (inr at) ↦ (same, at)
          ]
    ]

all_hold : (order : List Rule) (p : Plant) → ((number at : ℕ) → KeepsRule p number at) → AllHold order p
all_hold [] p keeps = tt
all_hold (rule ∷ rest) p keeps = (λ i below. gives rule p i below (keeps (number_of rule) i), all_hold rest p keeps)

pub meets_all : (p : Plant) → ((number at : ℕ) → KeepsRule p number at) → MeetsRules p
meets_all p keeps = MeetsRules-from_none p (none_fails-back rule_order p (all_hold rule_order p keeps))
