-- One frame after the other.
use Rattle.std.specs.Prelude.{◌≡◌, ℕ, ◌+◌, ◌≤◌, ◌++◌, ◌∷◌, [], List, Result, Ok, Err, All, Contains, Some, length, slice_get, replicate, ⊤}
use Rattle.irt_base.specs.Valid.{IsRate}
use Rattle.irt_base.specs.declared.limits.TheConstants.{MAX_DEVICES}
use Rattle.irt_base.specs.declared.blocks.Entry.{Entry}
use Rattle.irt_base.specs.declared.numbers.FrameId.{FrameId}
use Rattle.irt_base.specs.declared.plants.Demand.{Demand}
use Rattle.irt_base.specs.declared.plants.Plant.{Plant}
use Rattle.irt_route.specs.Routes.{RouteTables}
use Rattle.irt_route.specs.Trees.{Parents}
use Rattle.fit_rules.specs.declared.frame_plan.FramePlan.{FramePlan}
use Rattle.fit_rules.specs.Fit.{IsFirstFit, HasNoFit}
use Rattle.fit_rules.specs.Order.{IsDemandAt, parents_of, ArePlaced}
use Rattle.fit_rules.specs.Shape.{entry_of, IsRatioFor}
use Rattle.placement.specs.Layouts.{IsLayout}
use Rattle.placement.specs.Placings.{IsBestBelow, HasNoneBelow, rate_of}
use Rattle.placement.specs.Records.{IsFrameSlot}
use Rattle.placement.specs.Tables.{IsPlace, Adds}
use Rattle.placement.specs.declared.gaps.TheConstants.{TABLES}
use Rattle.placement.specs.declared.layout.Limits.{Limits}
use Rattle.placement.specs.declared.layout.Rate.{Rate}
use Rattle.placement.specs.declared.phases.Placing.{Placing}
use Rattle.plan_blocks.specs.Blocks.{AreLastEnds}
use Rattle.plan_blocks.specs.Ends.{Raises, end_at}
use Rattle.frame_ways.specs.FrameWays.{IsValidArrival, IsFrameWay}
use Rattle.frame_ways.specs.declared.frame_way.FrameWay.{FrameWay}
use Rattle.planner.specs.Ends.{IsSendingEnd, IsArrivalEnd}
use Rattle.planner.specs.Placed.{limits_of, HoldsPlans, IsPlacedPlan}
use Rattle.planner.specs.declared.fault.PlanFault.{PlanFault}
use Rattle.planner.specs.declared.fault.PlanFault.TheVariants as faults
use Rattle.planner.specs.declared.placed.Placed.{Placed}

-- a way whose numbers are in their ranges
pub record IsUsable (way : FrameWay) : Type 0 where
  pub layout : IsLayout way.layout
  pub few : length way.entries ≤ MAX_DEVICES
  pub arrivals : All IsValidArrival way.arrivals
  pub some : 1 ≤ length way.layout.anchors

pub record IsEmpty (placed : Placed) : Type 0 where
  pub plans : placed.plans ≡ []
  pub gaps : All (λ table. table ≡ []) placed.gaps
  pub tx : placed.tx ≡ replicate TABLES 0
  pub rx : placed.rx ≡ replicate TABLES 0

-- a frame is added, with its slots and ends
pub record IsRecorded (limits : Limits) (way : FrameWay) (rate : Rate) (offsets : List ℕ)
    (old new : Placed) : Type 0 where
  pub plan : FramePlan
  pub is : IsPlacedPlan way rate offsets plan
  pub plans : new.plans ≡ old.plans ++ plan ∷ []
  pub gaps : Adds (IsFrameSlot rate way.layout offsets) old.gaps new.gaps
  pub tx : Raises (IsSendingEnd limits rate way.layout offsets) old.tx new.tx
  pub rx : Raises (IsArrivalEnd limits rate way.layout.wire way.arrivals offsets) old.rx new.rx

-- an entry of a placed frame
pub record IsSoundEntry (plan : FramePlan) (e : Entry) : Type 0 where
  pub rate : IsRate e.ratio e.phase
  pub frame : e.frame ≡ plan.frame

-- The slots and ends are those of the frames.
pub record HoldsPlaced (plant : Plant) (placed : Placed) : Type 0 where
  pub slots : HoldsPlans plant placed.plans placed.gaps
  pub ends : AreLastEnds plant placed.plans placed.tx placed.rx
  pub small : (device port k : ℕ) → IsPlace device port k → end_at placed.tx device port k ≤ plant.red_max
  pub sound : (plan : FramePlan) (device : ℕ) (e : Entry) → Contains placed.plans plan → entry_of plan device ≡ Some e →
      IsSoundEntry plan e

-- the frame is placed in the best phase of those that have offsets
pub record IsBestAdded (plant : Plant) (demand : Demand) (way : FrameWay) (old new : Placed) : Type 0 where
  pub ratio : ℕ
  pub for : IsRatioFor plant demand ratio
  pub p : Placing
  pub best : IsBestBelow (limits_of plant) ratio way.layout old.gaps (ratio + 1) p
  pub is : IsRecorded (limits_of plant) way (rate_of ratio p.phase) p.offsets old new

-- no phase has offsets
pub record HasNoPhase (plant : Plant) (demand : Demand) (way : FrameWay) (old : Placed) (frame : FrameId) : Type 0 where
  pub named : frame ≡ demand.frame
  pub ratio : ℕ
  pub for : IsRatioFor plant demand ratio
  pub none : HasNoneBelow (limits_of plant) ratio way.layout old.gaps (ratio + 1)

abbrev pub IsAdded : Plant → Demand → FrameWay → Placed → Placed → Result (Unit {0}) PlanFault → Type 0
IsAdded plant demand way old new (Ok _) = IsBestAdded plant demand way old new
IsAdded plant demand way old new (Err faults.NoMemory) = ⊤
IsAdded plant demand way old new (Err (faults.Overrun frame)) = HasNoPhase plant demand way old frame

-- first fit places the frame beside the others
pub record IsFitAdded (plant : Plant) (parents : Parents) (demand : Demand) (old new : Placed) : Type 0 where
  pub plan : FramePlan
  pub fit : IsFirstFit plant parents old.plans demand plan
  pub plans : new.plans ≡ old.plans ++ plan ∷ []
  pub holds : HoldsPlaced plant new

abbrev pub IsStep : Plant → Parents → Demand → Placed → Placed → Result (Unit {0}) PlanFault → Type 0
IsStep plant parents demand old new (Ok _) = IsFitAdded plant parents demand old new
IsStep plant parents demand old new (Err faults.NoMemory) = ⊤
IsStep plant parents demand old new (Err (faults.Overrun frame)) =
    (frame ≡ demand.frame) × HasNoFit plant parents old.plans demand

-- the ways of all demands
pub record AreWays (plant : Plant) (routes : RouteTables) (ways : List FrameWay) : Type 0 where
  pub count : length ways ≡ length plant.demands
  pub each : (index : ℕ) (demand : Demand) (way : FrameWay) → IsDemandAt plant index demand →
      slice_get ways index ≡ Some way → IsFrameWay plant (parents_of routes index) demand way

-- all demands of an order are placed
pub record AreAllPlaced (plant : Plant) (routes : RouteTables) (order : List ℕ) (placed : Placed) : Type 0 where
  pub all : length placed.plans ≡ length order
  pub fit : ArePlaced plant routes order placed.plans
  pub holds : HoldsPlaced plant placed

-- Those before a frame are placed, and no phase is left for it.
pub record IsOverrunIn (plant : Plant) (routes : RouteTables) (order : List ℕ) (frame : FrameId) : Type 0 where
  pub plans : List FramePlan
  pub placed : ArePlaced plant routes order plans
  pub index : ℕ
  pub demand : Demand
  pub next : slice_get order (length plans) ≡ Some index
  pub there : IsDemandAt plant index demand
  pub named : demand.frame ≡ frame
  pub none : HasNoFit plant (parents_of routes index) plans demand

abbrev pub IsRun : Plant → RouteTables → List ℕ → Result Placed PlanFault → Type 0
IsRun plant routes order (Ok placed) = AreAllPlaced plant routes order placed
IsRun plant routes order (Err faults.NoMemory) = ⊤
IsRun plant routes order (Err (faults.Overrun frame)) = IsOverrunIn plant routes order frame
