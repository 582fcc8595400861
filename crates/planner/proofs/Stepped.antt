-- What is found in the tables is first fit.
use Rattle.std.proofs.Common.{◌≡◌, ℕ, ◌≤◌, inl, inr, List, [], ◌∷◌, ◌++◌, Some, Ok, Err, Result, sym, ◌∙◌, subst, arith}
use Rattle.std.specs.Prelude.{Contains}
use Rattle.irt_base.specs.Valid.{IsRate}
use Rattle.irt_base.specs.declared.blocks.Entry.{Entry}
use Rattle.irt_base.specs.declared.plants.Demand.{Demand}
use Rattle.irt_base.specs.declared.plants.Plant.{Plant}
use Rattle.irt_route.specs.Routes.{RouteTables, IsRoutesOf}
use Rattle.fit_rules.specs.declared.frame_plan.FramePlan.{FramePlan}
use Rattle.fit_rules.specs.Order.{IsDemandAt, parents_of}
use Rattle.fit_rules.specs.Shape.{entry_of, HasShape}
use Rattle.placement.specs.Placings.{rate_of}
use Rattle.placement.specs.Tables.{IsPlace}
use Rattle.plan_blocks.specs.Blocks.{AreLastEnds}
use Rattle.plan_blocks.specs.Ends.{end_at}
use Rattle.frame_ways.specs.FrameWays.{IsFrameWay}
use Rattle.frame_ways.specs.declared.frame_way.FrameWay.{FrameWay}
use Rattle.planner.specs.Placed.{limits_of, HoldsPlans}
use Rattle.planner.specs.Steps.{IsBestAdded, IsAdded, IsSoundEntry, HoldsPlaced, IsFitAdded, IsStep}
use Rattle.planner.specs.declared.fault.PlanFault.{PlanFault}
use Rattle.planner.specs.declared.fault.PlanFault.TheVariants as faults
use Rattle.planner.specs.declared.placed.Placed.{Placed}
use Rattle.planner.proofs.Fitted.{end_is, first_fit, no_fit}
use Rattle.planner.proofs.Grown.{ends_more}
use Rattle.planner.proofs.Laws.{FitLaws}
use Rattle.planner.proofs.Rooms.{AreRated}
use Rattle.planner.proofs.Shaped.{placed_shape, placed_offsets}
use Rattle.planner.proofs.Slots.{more_back, fitting, holds_more}
use Rattle.planner.proofs.Windows.{HasOffsets}

rated_in : (plant : Plant) (placed : Placed) → HoldsPlaced plant placed → AreRated placed.plans
rated_in plant placed holds plan device e has is = (holds.sound plan device e has is).rate

module _ (laws : FitLaws) (plant : Plant) (routes : RouteTables) (index : ℕ) (demand : Demand) (are : IsRoutesOf plant routes)
    (at : IsDemandAt plant index demand) (way : FrameWay) (known : IsFrameWay plant (parents_of routes index) demand way)
    (old new : Placed) (holds : HoldsPlaced plant old) where
  module _ (found : IsBestAdded plant demand way old new) where
    shape : HasShape plant (parents_of routes index) demand found.ratio found.p.phase found.is.plan
    shape = placed_shape plant (parents_of routes index) demand way known (rate_of found.ratio found.p.phase) found.p.offsets found.is.plan found.is.is

    has : HasOffsets plant found.is.plan found.p.offsets
    has = placed_offsets plant (parents_of routes index) demand way known (rate_of found.ratio found.p.phase) found.p.offsets found.is.plan found.is.is

    slots : HoldsPlans plant (old.plans ++ found.is.plan ∷ []) new.gaps
    slots = holds_more laws plant (parents_of routes index) demand way known (rate_of found.ratio found.p.phase) found.is.plan shape found.p.offsets has
        old.plans old.gaps new.gaps holds.slots found.is.gaps

    ends : AreLastEnds plant (old.plans ++ found.is.plan ∷ []) new.tx new.rx
    ends = ends_more laws plant (parents_of routes index) demand way known (rate_of found.ratio found.p.phase) found.is.plan shape found.p.offsets has
        (end_is laws plant routes index demand are at way known old.plans (rated_in plant old holds) old.gaps holds.slots found.ratio found.p.phase found.is.plan shape
        found.p.offsets has) old.plans old.tx old.rx new.tx new.rx holds.ends found.is.tx found.is.rx

    small : (device port k : ℕ) → IsPlace device port k → end_at new.tx device port k ≤ plant.red_max
    small device port k place = elim (found.is.tx.some device port k place) [
      | inl same ↦ subst (λ n. n ≤ plant.red_max) (sym same) (holds.small device port k place)
      | inr is ↦
          let fits = fitting (limits_of plant) (rate_of found.ratio found.p.phase) way.layout old.gaps found.p.offsets known.layout found.best.placed is.sending is.has in
          subst (λ n. n ≤ plant.red_max) (sym is.is.end_is) fits.red
    ]

    own_sound : (device : ℕ) (e : Entry) → entry_of found.is.plan device ≡ Some e → IsSoundEntry found.is.plan e
    own_sound device e is =
        let own = shape.each device e is in
        let low = found.best.from_one in
        let below = found.best.before in
        let high : found.p.phase ≤ found.ratio = omega arith in
        let rate : IsRate e.ratio e.phase =
        subst (λ r. IsRate r e.phase) (sym own.ratio_is) (subst (λ p. IsRate found.ratio p) (sym own.phase_is) (found.for.is, (low, high))) in
        record { rate = rate; frame = own.frame ∙ sym shape.frame }

    sound : (other : FramePlan) (device : ℕ) (e : Entry) → Contains new.plans other → entry_of other device ≡ Some e → IsSoundEntry other e
    sound other device e listed stands =
        elim (more_back old.plans found.is.plan other (subst (λ (ps : List FramePlan). Contains ps other) found.is.plans listed)) [
          | inl before ↦ holds.sound other device e before stands
          | inr same ↦
              subst (λ (p : FramePlan). IsSoundEntry p e) same (own_sound device e (subst (λ (p : FramePlan). entry_of p device ≡ Some e) (sym same) stands))
        ]

    added : IsFitAdded plant (parents_of routes index) demand old new
    added = record {
      plan = found.is.plan;
      fit = first_fit laws plant routes index demand are at way known old.plans (rated_in plant old holds) old.gaps holds.slots found.ratio found.for found.p found.best
          found.is.plan shape has;
      plans = found.is.plans;
      holds = record {
        slots = subst (λ (ps : List FramePlan). HoldsPlans plant ps new.gaps) (sym found.is.plans) slots;
        ends = subst (λ (ps : List FramePlan). AreLastEnds plant ps new.tx new.rx) (sym found.is.plans) ends;
        small = small;
        sound = sound;
      };
    }

  pub step_is : (r : Result (Unit {0}) PlanFault) → IsAdded plant demand way old new r → IsStep plant (parents_of routes index) demand old new r
  step_is (Ok _) is = added is
  step_is (Err faults.NoMemory) is = tt
  step_is (Err (faults.Overrun frame)) is =
      (is.named, no_fit laws plant routes index demand are at way known old.plans (rated_in plant old holds) old.gaps holds.slots is.ratio is.for is.none)
