-- What planning answers, by the parts that it joins.
use Rattle.std.proofs.Common.{◌≡◌, ◌≢◌, ◌<◌, List, Ok, Err, Result, AllPairs, length, sym, subst₂, refl}
use Rattle.std.specs.Prelude.{All, IfOk, IfErr, slice_index_or}
use Rattle.std.specs.List.Sorted.{IsPermutation, IsSortedByKey}
use Rattle.std.proofs.lemmas.List.Elements.{Contains-get_or}
use Rattle.irt_base.specs.declared.blocks.Bundle.{Bundle}
use Rattle.irt_base.specs.declared.numbers.FrameId.{FrameId}
use Rattle.irt_base.specs.declared.plants.Demand.{Demand}
use Rattle.irt_base.specs.declared.plants.Plant.{Plant}
use Rattle.irt_route.specs.Routes.{RouteTables, IsRoutesOf}
use Rattle.fit_rules.specs.declared.frame_plan.FramePlan.{FramePlan}
use Rattle.fit_rules.specs.Blocks.{AreBundlesOf, AreFirstFit}
use Rattle.fit_rules.specs.Order.{IsFit, IsOverrun}
use Rattle.frame_ways.specs.declared.frame_way.FrameWay.{FrameWay}
use Rattle.planner.specs.Answers.{IsPlanFault, IsAnswer, IsOverrunAnswer}
use Rattle.planner.specs.Steps.{AreWays, AreAllPlaced, IsRun}
use Rattle.planner.specs.Turns.{AreTurns, key_of, key_cmp, order_of}
use Rattle.planner.specs.declared.fault.PlanFault.{PlanFault}
use Rattle.planner.specs.declared.fault.PlanFault.TheVariants as faults
use Rattle.planner.specs.declared.placed.Placed.{Placed}
use Rattle.planner.specs.declared.turns.Turn.{Turn}
use Rattle.planner.proofs.Ordered.{within, order_is, plans_differ}

-- the ways of all demands, and their turns in order
pub record AreReady (plant : Plant) (routes : RouteTables) (ways : List FrameWay) (sorted : List Turn) : Type 0 where
  pub known : AreWays plant routes ways
  pub turns : List Turn
  pub all : AreTurns plant.demands ways turns
  pub same : IsPermutation turns sorted
  pub up : IsSortedByKey key_of key_cmp sorted

pub ready_of : (plant : Plant) (routes : RouteTables) (ways seen also : List FrameWay) (demands : List Demand) (turns sorted read : List Turn) →
    AreWays plant routes ways → seen ≡ ways → demands ≡ plant.demands → AreTurns demands seen turns → IsPermutation turns sorted →
    IsSortedByKey key_of key_cmp sorted → read ≡ sorted → also ≡ ways → AreReady plant routes also read
ready_of plant routes ways seen also demands turns sorted read known first second all same up third fourth =
    subst₂ (AreReady plant routes) (sym fourth) (sym third)
    (record { known = known; turns = turns; all = subst₂ (λ (ds : List Demand) (ws : List FrameWay). AreTurns ds ws turns) second first all; same = same; up = up })

module _ (plant : Plant) (routes : RouteTables) (are : IsRoutesOf plant routes) (ways : List FrameWay) (sorted : List Turn) (ready : AreReady plant routes ways sorted) where
  pub turns_inside : All (λ (t : Turn). t.index < length plant.demands) sorted
  turns_inside k d inside = within plant routes are ways ready.known ready.turns sorted ready.all ready.same (slice_index_or sorted k d) (Contains-get_or sorted k d inside)

  pub frames_differ : (placed : Placed) → AreAllPlaced plant routes (order_of sorted) placed → AllPairs (λ (a b : FramePlan). a.frame.0 ≢ b.frame.0) placed.plans
  frames_differ placed run = plans_differ plant routes are ways ready.known ready.turns sorted ready.all ready.same placed.plans run.all run.fit

  pub is_first_fit : (placed : Placed) (bundles : List Bundle) → AreAllPlaced plant routes (order_of sorted) placed → AreBundlesOf plant placed.plans bundles →
      AreFirstFit plant routes bundles
  is_first_fit placed bundles run blocks = record {
    plans = placed.plans;
    fit = record {
      order = order_of sorted;
      is_order = order_is plant routes are ways ready.known ready.turns sorted ready.all ready.same ready.up;
      all = run.all;
      placed = run.fit;
    };
    blocks = blocks;
  }

  pub is_fault : (fault : PlanFault) → IsRun plant routes (order_of sorted) (Err fault) → IsPlanFault plant routes fault
  is_fault faults.NoMemory run = tt
  is_fault (faults.Overrun frame) run = record {
    order = order_of sorted;
    is_order = order_is plant routes are ways ready.known ready.turns sorted ready.all ready.same ready.up;
    plans = run.plans;
    placed = run.placed;
    index = run.index;
    demand = run.demand;
    next = run.next;
    there = run.there;
    named = run.named;
    none = run.none;
  }

-- By the laws of first fit there is no other answer.
module _ (plant : Plant) (routes : RouteTables) (are : IsRoutesOf plant routes)
    (one : (plant : Plant) (routes : RouteTables) (bundles others : List Bundle) → IsRoutesOf plant routes →
    AreFirstFit plant routes bundles → AreFirstFit plant routes others → bundles ≡ others)
    (excluded : (plant : Plant) (routes : RouteTables) (plans : List FramePlan) (frame : FrameId) → IsRoutesOf plant routes →
    IsFit plant routes plans → IsOverrun plant routes frame → ⊥)
    (overruns : (plant : Plant) (routes : RouteTables) (frame other : FrameId) → IsRoutesOf plant routes →
    IsOverrun plant routes frame → IsOverrun plant routes other → frame ≡ other) where
  pub only_answer : (r : Result (List Bundle) PlanFault) → IfOk r (AreFirstFit plant routes) → IfErr r (IsPlanFault plant routes) →
      (bundles : List Bundle) → AreFirstFit plant routes bundles → IsAnswer bundles r
  only_answer (Ok answer) fit fault bundles is = one plant routes answer bundles are fit is
  only_answer (Err faults.NoMemory) fit fault bundles is = refl
  only_answer (Err (faults.Overrun frame)) fit fault bundles is = absurd (excluded plant routes is.plans frame are is.fit fault)

  pub only_overrun : (r : Result (List Bundle) PlanFault) → IfOk r (AreFirstFit plant routes) → IfErr r (IsPlanFault plant routes) →
      (frame : FrameId) → IsOverrun plant routes frame → IsOverrunAnswer frame r
  only_overrun (Ok answer) fit fault frame is = excluded plant routes fit.plans frame are fit.fit is
  only_overrun (Err faults.NoMemory) fit fault frame is = tt
  only_overrun (Err (faults.Overrun other)) fit fault frame is = overruns plant routes other frame are fault is

-- What holds of every first fit holds of the answer.
pub of_answer : (plant : Plant) (routes : RouteTables) (P : List Bundle → Type 0) (r : Result (List Bundle) PlanFault) →
    ((bundles : List Bundle) → AreFirstFit plant routes bundles → P bundles) → IfOk r (AreFirstFit plant routes) → IfOk r P
of_answer plant routes P (Ok answer) law fit = law answer fit
of_answer plant routes P (Err fault) law fit = tt
