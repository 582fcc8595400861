-- Ports and devices, one after the other.
use Rattle.std.proofs.Common.{◌≡◌, ◌+◌, ◌++◌, ◌∷◌, [], ℕ, inl, inr, List, Some, length, sym, ◌∙◌, ap, subst}
use Rattle.std.specs.Prelude.{slice_get}
use Rattle.std.proofs.lemmas.Option.{same_Some}
use Rattle.irt_base.specs.declared.limits.TheConstants.{PHASES}
use Rattle.irt_base.specs.declared.blocks.Bundle.{Bundle}
use Rattle.irt_base.specs.declared.blocks.PortPeriods.{PortPeriods}
use Rattle.irt_base.specs.declared.plants.Device.{Device}
use Rattle.irt_base.specs.declared.plants.Plant.{Plant}
use Rattle.fit_rules.specs.declared.frame_plan.FramePlan.{FramePlan}
use Rattle.plan_blocks.specs.Bundles.{IsBundleBy, AreBundlesBelow}
use Rattle.plan_blocks.specs.Periods.{ArePhasesBelow}
use Rattle.plan_blocks.proofs.Lists.{get_more, length_more}

-- the periods of the ports before one
pub record ArePortsBelow (orange : ℕ) (tx rx : List ℕ) (device below : ℕ) (ports : List PortPeriods) : Type 0 where
  pub count : length ports ≡ below
  pub each : (n : ℕ) (p : PortPeriods) → slice_get ports n ≡ Some p → ArePhasesBelow orange tx rx device (n + 1) PHASES p

pub one_port : (orange : ℕ) (tx rx : List ℕ) (device n port : ℕ) (ports : List PortPeriods) (p : PortPeriods) → port ≡ n + 1 →
    ArePortsBelow orange tx rx device n ports → ArePhasesBelow orange tx rx device port PHASES p → ArePortsBelow orange tx rx device (n + 1) (ports ++ p ∷ [])
one_port orange tx rx device n port ports p named are own = record {
  count = length_more ports p ∙ ap (λ (m : ℕ). m + 1) are.count;
  each = λ m q at. elim (get_more ports p m q at) [
    | inl before ↦ are.each m q before
    | inr last ↦
        let same : port ≡ m + 1 = named ∙ ap (λ (k : ℕ). k + 1) (sym (last.0 ∙ are.count)) in
        subst (λ (x : PortPeriods). ArePhasesBelow orange tx rx device (m + 1) PHASES x) last.1
        (subst (λ (k : ℕ). ArePhasesBelow orange tx rx device k PHASES p) same own)
  ];
}

pub one_bundle : (plant : Plant) (plans : List FramePlan) (tx rx : List ℕ) (n : ℕ) (bundles : List Bundle) (d : Device) (b : Bundle) →
    slice_get plant.devices n ≡ Some d → AreBundlesBelow plant plans tx rx n bundles → IsBundleBy plant plans tx rx n d b →
    AreBundlesBelow plant plans tx rx (n + 1) (bundles ++ b ∷ [])
one_bundle plant plans tx rx n bundles d b there are own = record {
  count = length_more bundles b ∙ ap (λ (m : ℕ). m + 1) are.count;
  each = λ m e x held at. elim (get_more bundles b m x at) [
    | inl before ↦ are.each m e x held before
    | inr last ↦
        let same : m ≡ n = last.0 ∙ are.count in
        let one : d ≡ e = same_Some d e (sym there ∙ ap (slice_get plant.devices) (sym same) ∙ held) in
        subst (λ (y : Bundle). IsBundleBy plant plans tx rx m e y) last.1
        (subst (λ (k : ℕ). IsBundleBy plant plans tx rx k e b) (sym same) (subst (λ (y : Device). IsBundleBy plant plans tx rx n y b) one own))
  ];
}
