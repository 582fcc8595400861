-- The laws of first fit on which placing rests.
use Rattle.std.specs.Prelude.{◌≡◌, ℕ, ◌+◌, ◌↔◌, List, Some}
use Rattle.irt_base.specs.declared.blocks.Entry.{Entry}
use Rattle.irt_base.specs.declared.plants.Demand.{Demand}
use Rattle.irt_base.specs.declared.plants.Plant.{Plant}
use Rattle.irt_route.specs.Routes.{RouteTables, IsRoutesOf}
use Rattle.irt_route.specs.Trees.{Parents}
use Rattle.plan_rules.specs.Frames.{IsForwarded}
use Rattle.plan_rules.specs.SendWindow.{SendWindow}
use Rattle.plan_rules.specs.Way.{IsAnchor}
use Rattle.fit_rules.specs.declared.frame_plan.FramePlan.{FramePlan}
use Rattle.fit_rules.specs.Delays.{IsAtZero, AreRoomyAt, IsReadyAfter}
use Rattle.fit_rules.specs.Shape.{alone, entry_of, IsRatioFor, HasShape}
use Rattle.fit_rules.specs.Fit.{IsUsing, IsClearAt, IsReady}
use Rattle.fit_rules.specs.Moves.{SharesWay, IsShifted, offset_at}
use Rattle.fit_rules.specs.Order.{IsDemandAt}

pub record FitLaws : Type 0 where
  pub clear : (plant : Plant) (parents : Parents) (demand : Demand) (base_ratio base_phase : ℕ) (base : FramePlan) →
      HasShape plant parents demand base_ratio base_phase base → IsAtZero base →
      (ratio phase : ℕ) (plan : FramePlan) → HasShape plant parents demand ratio phase plan →
      (anchor x : ℕ) (e : Entry) → entry_of plan anchor ≡ Some e → IsAnchor (alone plant plan) anchor e →
      (placed : List FramePlan) → IsClearAt plant placed plan anchor x ↔ AreRoomyAt plant placed demand ratio phase base anchor x
  pub ready : (plant : Plant) (parents : Parents) (demand : Demand) (base_ratio base_phase : ℕ) (base : FramePlan) →
      HasShape plant parents demand base_ratio base_phase base → IsAtZero base →
      (ratio phase : ℕ) (plan : FramePlan) → HasShape plant parents demand ratio phase plan →
      (device anchor gap y : ℕ) (e : Entry) → entry_of plan device ≡ Some e → IsReadyAfter plant base device anchor gap →
      offset_at plan anchor ≡ Some y → IsReady plant plan device e (y + gap)
  pub one_ready : (plant : Plant) (routes : RouteTables) (index : ℕ) (demand : Demand) → IsRoutesOf plant routes →
      IsDemandAt plant index demand → (plan : FramePlan) (device : ℕ) (e : Entry) (ready other : ℕ) →
      IsReady plant plan device e ready → IsReady plant plan device e other → ready ≡ other
  pub sendings : (plant : Plant) (parents : Parents) (demand : Demand) (ratio phase : ℕ) (plan : FramePlan) →
      HasShape plant parents demand ratio phase plan →
      (other_ratio other_phase : ℕ) (other : FramePlan) → HasShape plant parents demand other_ratio other_phase other →
      (device port x y : ℕ) (e : Entry) (w : SendWindow) → IsUsing plant plan device port e w →
      offset_at plan w.anchor ≡ Some x → offset_at other w.anchor ≡ Some y →
      (g : Entry) × (v : SendWindow) × SharesWay e g × IsUsing plant other device port g v × IsShifted x y w v
  pub arrivals : (plant : Plant) (parents : Parents) (demand : Demand) (ratio phase : ℕ) (plan : FramePlan) →
      HasShape plant parents demand ratio phase plan →
      (other_ratio other_phase : ℕ) (other : FramePlan) → HasShape plant parents demand other_ratio other_phase other →
      (device hop x y : ℕ) (e : Entry) (w : SendWindow) → IsForwarded (alone plant plan) device plan.frame.0 e hop w →
      offset_at plan w.anchor ≡ Some x → offset_at other w.anchor ≡ Some y →
      (g : Entry) × (v : SendWindow) × SharesWay e g × IsForwarded (alone plant other) device other.frame.0 g hop v × IsShifted x y w v
  pub one_ratio : (plant : Plant) (demand : Demand) (ratio other : ℕ) → IsRatioFor plant demand ratio →
      IsRatioFor plant demand other → ratio ≡ other
