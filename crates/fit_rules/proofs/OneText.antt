-- What is printed of a plan is one.
use Rattle.std.proofs.Common.{◌≡◌, ℕ, List, sym, ◌∙◌, ap}
use Rattle.std.proofs.lemmas.Option.{same_Some}
use Rattle.irt_base.specs.declared.blocks.Bundle.{Bundle}
use Rattle.irt_base.specs.declared.blocks.Entry.{Entry}
use Rattle.irt_base.specs.declared.plants.Demand.{Demand}
use Rattle.plan_rules.specs.Way.{Setup}
use Rattle.fit_rules.specs.Printed.{IsPlannedSomewhere, IsSchedule, IsOrangeBegin, IsRedEnd}
use Rattle.fit_rules.proofs.OneBundles.{one_greatest}

pub one_schedule : (setup : Setup) (demand : Demand) (ratio phase planned other_ratio other_phase other_planned : ℕ) →
    IsSchedule setup demand ratio phase planned → IsSchedule setup demand other_ratio other_phase other_planned →
    (ratio ≡ other_ratio) × (phase ≡ other_phase) × (planned ≡ other_planned)
one_schedule setup demand r p t s q u a b =
    let same = same_Some a.e b.e (sym a.provided ∙ b.provided) in (
      sym a.ratio_is ∙ ap (λ (e : Entry). e.ratio) same ∙ b.ratio_is,
      sym a.phase_is ∙ ap (λ (e : Entry). e.phase) same ∙ b.phase_is,
      one_greatest (IsPlannedSomewhere setup demand.frame.0) t u a.last b.last,
    )

pub one_red_end : (bundles : List Bundle) (end other : ℕ) → IsRedEnd bundles end → IsRedEnd bundles other → end ≡ other
one_red_end bundles end other a b = one_greatest (IsOrangeBegin bundles) end other a b
