-- First fit's bundles are an accepted plan.
use Rattle.std.proofs.Common.{ℕ, zero, suc, List, [], ◌∷◌, slice_index_or}
use Rattle.irt_base.specs.declared.blocks.Bundle.{Bundle}
use Rattle.irt_base.specs.declared.plants.Plant.{Plant}
use Rattle.irt_route.specs.Routes.{RouteTables, IsRoutesOf}
use Rattle.plan_rules.specs.Places.{IsAccepted}
use Rattle.plan_rules.specs.Plan.{IsPlan}
use Rattle.plan_rules.specs.Rules.{rule_table, AsksNothing}
use Rattle.plan_rules.specs.declared.place.Place.{Place}
use Rattle.fit_rules.specs.declared.frame_plan.FramePlan.{FramePlan}
use Rattle.fit_rules.specs.Blocks.{AreFirstFit}
use Rattle.fit_rules.proofs.FrameRules.{tree_holds, demand_holds, idle_holds, late_holds, apart_holds, end_holds}
use Rattle.fit_rules.proofs.HeaderRules.{header_holds, frame_holds, range_holds, clock_holds}
use Rattle.fit_rules.proofs.Known.{Known}
use Rattle.fit_rules.proofs.Merged.{IsWhole}
use Rattle.fit_rules.proofs.PeriodRules.{sent_holds, received_holds, limit_holds, orange_holds, order_holds}
use Rattle.fit_rules.proofs.Valid.{plan_holds}

whole_fit : Known → (plant : Plant) (routes : RouteTables) (bundles : List Bundle) → IsRoutesOf plant routes → (fit : AreFirstFit plant routes bundles) →
    IsWhole plant routes fit.plans bundles
whole_fit known plant routes bundles are fit = record { known = known; are = are; fit = fit.fit; blocks = fit.blocks }

pub plan_of_fit : Known → (plant : Plant) (routes : RouteTables) (bundles : List Bundle) → IsRoutesOf plant routes → AreFirstFit plant routes bundles → IsPlan plant bundles
plan_of_fit known plant routes bundles are fit = plan_holds plant routes fit.plans bundles (whole_fit known plant routes bundles are fit)

infixr 10 ◌▸◌
-- each of a list of rules holds everywhere
data AreKept : List (Place → Type 0) → Type 1 where
  none : AreKept []
  ◌▸◌ : {Rule : Place → Type 0} {rules : List (Place → Type 0)} → ((at : Place) → Rule at) → AreKept rules → AreKept (Rule ∷ rules)

kept_rule : (rules : List (Place → Type 0)) → AreKept rules → (number : ℕ) (at : Place) → slice_index_or rules number AsksNothing at
kept_rule _ none number at = tt
kept_rule _ (rule ▸ rest) zero at = rule at
kept_rule _ (rule ▸ rest) (suc number) at = kept_rule _ rest number at

module _ (plant : Plant) (routes : RouteTables) (plans : List FramePlan) (bundles : List Bundle) (whole : IsWhole plant routes plans bundles) where
  table_kept : AreKept (AsksNothing ∷ rule_table plant bundles)
  table_kept =
      (λ at. tt)
      ▸ header_holds plant routes plans bundles whole
      ▸ tree_holds plant routes plans bundles whole
      ▸ demand_holds plant routes plans bundles whole
      ▸ idle_holds plant routes plans bundles whole
      ▸ late_holds plant routes plans bundles whole
      ▸ apart_holds plant routes plans bundles whole
      ▸ sent_holds plant routes plans bundles whole
      ▸ received_holds plant routes plans bundles whole
      ▸ end_holds plant routes plans bundles whole
      ▸ limit_holds plant routes plans bundles whole
      ▸ frame_holds plant routes plans bundles whole
      ▸ range_holds plant routes plans bundles whole
      ▸ orange_holds plant routes plans bundles whole
      ▸ order_holds plant routes plans bundles whole
      ▸ clock_holds plant routes plans bundles whole
      ▸ none

pub accepted_fit : Known → (plant : Plant) (routes : RouteTables) (bundles : List Bundle) → IsRoutesOf plant routes → AreFirstFit plant routes bundles →
    IsAccepted plant bundles
accepted_fit known plant routes bundles are fit =
    kept_rule (AsksNothing ∷ rule_table plant bundles) (table_kept plant routes fit.plans bundles (whole_fit known plant routes bundles are fit))
