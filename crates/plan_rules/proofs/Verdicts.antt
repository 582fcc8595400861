-- A plan has one verdict.
use Rattle.std.proofs.Common.{◌≡◌, ◌⊎◌, inl, inr, ℕ, zero, suc, ◌+◌, ◌≤◌, List, [], ◌∷◌, length, slice_index_or, sym, subst, arith}
use Rattle.std.proofs.lemmas.Bool.{cases_order, cases_lt}
use Rattle.irt_base.specs.declared.blocks.Bundle.{Bundle}
use Rattle.irt_base.specs.declared.plants.Plant.{Plant}
use Rattle.plan_rules.specs.Places.{IsLess, IsReject, KeepsBelow, IsAccepted}
use Rattle.plan_rules.specs.Rules.{rule_table, KeepsRule, AsksNothing}
use Rattle.plan_rules.specs.declared.place.Place.{Place}
use Rattle.plan_rules.specs.declared.place.Reject.{Reject}

-- ---- places are in one order

same_place : (a b : Place) → a.device.0 ≡ b.device.0 → a.port ≡ b.port → a.frame ≡ b.frame → a.other ≡ b.other → a ≡ b
same_place a b p q r s = λ i. record { device = record { 0 = p i }; port = q i; frame = r i; other = s i }

place_order : (a b : Place) → (a ≡ b) ⊎ (IsLess a b ⊎ IsLess b a)
place_order a b = elim (cases_order a.device.0 b.device.0) [
  | inr (inl less) ↦ inr (inl (inl less))
  | inr (inr more) ↦ inr (inr (inl more))
  | inl device ↦ elim (cases_order a.port b.port) [
    | inr (inl less) ↦ inr (inl (inr (device, inl less)))
    | inr (inr more) ↦ inr (inr (inr (sym device, inl more)))
    | inl port ↦ elim (cases_order a.frame b.frame) [
      | inr (inl less) ↦ inr (inl (inr (device, inr (port, inl less))))
      | inr (inr more) ↦ inr (inr (inr (sym device, inr (sym port, inl more))))
      | inl frame ↦ elim (cases_order a.other b.other) [
        | inr (inl less) ↦ inr (inl (inr (device, inr (port, inr (frame, less)))))
        | inr (inr more) ↦ inr (inr (inr (sym device, inr (sym port, inr (sym frame, more)))))
        | inl other ↦ inl (same_place a b device port frame other)
      ]
    ]
  ]
]

module _ (plant : Plant) (bundles : List Bundle) where
  -- one first failure
  pub one_reject : (r s : Reject) → IsReject plant bundles r → IsReject plant bundles s → r ≡ s
  one_reject r s one two = elim (cases_order r.rule s.rule) [
    | inr (inl less) ↦ absurd (one.fails.breaks (two.first r.rule r.place less))
    | inr (inr more) ↦ absurd (two.fails.breaks (one.first s.rule s.place more))
    | inl rule ↦ elim (place_order r.place s.place) [
      | inl place ↦ λ i. record { rule = rule i; place = place i }
      | inr (inl less) ↦ absurd (one.fails.breaks (subst (λ (n : ℕ). KeepsRule plant bundles n r.place) (sym rule) (two.fails.least r.place less)))
      | inr (inr more) ↦ absurd (two.fails.breaks (subst (λ (n : ℕ). KeepsRule plant bundles n s.place) rule (one.fails.least s.place more)))
    ]
  ]

  pub refuted : (r : Reject) → IsReject plant bundles r → ¬ IsAccepted plant bundles
  refuted r rejects accepts = rejects.fails.breaks (accepts r.rule r.place)

  -- a rule more
  pub one_more : (next : ℕ) → KeepsBelow plant bundles next → ((at : Place) → KeepsRule plant bundles next at) → KeepsBelow plant bundles (next + 1)
  one_more next before here number at below = elim (cases_order number next) [
    | inl same ↦ subst (λ (n : ℕ). KeepsRule plant bundles n at) (sym same) (here at)
    | inr (inl less) ↦ before number at less
    | inr (inr more) ↦ absurd (omega arith)
  ]

  -- past the last number nothing is asked
  nothing_asked : (rules : List (Place → Type 0)) (number : ℕ) (at : Place) → length rules ≤ number → slice_index_or rules number AsksNothing at
  nothing_asked [] number at past = tt
  nothing_asked (Rule ∷ rules) zero at past = absurd (omega arith)
  nothing_asked (Rule ∷ rules) (suc number) at past = nothing_asked rules number at (omega arith)

  pub all_kept : KeepsBelow plant bundles (length (rule_table plant bundles) + 1) → IsAccepted plant bundles
  all_kept before number at = elim (cases_lt number (length (rule_table plant bundles) + 1)) [
    | inl below ↦ before number at below
    | inr past ↦ nothing_asked (AsksNothing ∷ rule_table plant bundles) number at (omega arith)
  ]
