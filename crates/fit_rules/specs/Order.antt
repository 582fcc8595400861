-- First fit of all demands, in their order.
use Rattle.std.specs.Prelude.{◌≡◌, ℕ, ◌<◌, ◌≤◌, ◌⊎◌, List, [], length, take, Some, AllPairs, Contains, slice_get, slice_index_or}
use Rattle.irt_base.specs.Wiring.{peer_of}
use Rattle.irt_base.specs.declared.numbers.DevId.{DevId}
use Rattle.irt_base.specs.declared.numbers.FrameId.{FrameId}
use Rattle.irt_base.specs.declared.plants.Demand.{Demand}
use Rattle.irt_base.specs.declared.plants.Plant.{Plant}
use Rattle.irt_route.specs.Walks.{HasHops}
use Rattle.irt_route.specs.Trees.{Parents}
use Rattle.irt_route.specs.Routes.{RouteTables}
use Rattle.fit_rules.specs.declared.frame_plan.FramePlan.{FramePlan}
use Rattle.fit_rules.specs.Fit.{IsFirstFit, HasNoFit}

-- the links of the walk to a demand's farthest consumer
pub record HasFarthest (plant : Plant) (demand : Demand) (hops : ℕ) : Type 0 where
  pub bound : (c : DevId) (n : ℕ) → Contains demand.consumers c →
      HasHops (peer_of plant) demand.provider.0 c.0 n → n ≤ hops
  pub some : (c : DevId) × Contains demand.consumers c × HasHops (peer_of plant) demand.provider.0 c.0 hops

-- far frames first, then long ones, then those of lesser FrameIDs
pub record IsEarlier (plant : Plant) (first second : Demand) : Type 0 where
  pub hops : ℕ
  pub other_hops : ℕ
  pub farthest : HasFarthest plant first hops
  pub other_farthest : HasFarthest plant second other_hops
  pub before : (other_hops < hops) ⊎ ((hops ≡ other_hops) × ((second.length < first.length) ⊎
      ((first.length ≡ second.length) × (first.frame.0 < second.frame.0))))

abbrev pub IsDemandAt : Plant → ℕ → Demand → Type 0
IsDemandAt plant index demand = slice_get plant.demands index ≡ Some demand

-- one index is placed before the other
abbrev pub AreInOrder : Plant → ℕ → ℕ → Type 0
AreInOrder plant i j = (d e : Demand) → IsDemandAt plant i d → IsDemandAt plant j e → IsEarlier plant d e

-- The indexes of all demands, in the order in which they are placed.
pub record IsOrder (plant : Plant) (order : List ℕ) : Type 0 where
  pub count : length order ≡ length plant.demands
  pub all : (index : ℕ) → index < length plant.demands → Contains order index
  pub sorted : AllPairs (AreInOrder plant) order

abbrev pub parents_of : RouteTables → ℕ → Parents
parents_of routes index = slice_index_or routes.parents index []

-- what first fit places at a place of the order, beside the frames before
pub record IsPlacedAt (plant : Plant) (routes : RouteTables) (order : List ℕ) (placed : List FramePlan) (n : ℕ)
    (plan : FramePlan) : Type 0 where
  pub index : ℕ
  pub demand : Demand
  pub next : slice_get order n ≡ Some index
  pub there : IsDemandAt plant index demand
  pub fit : IsFirstFit plant (parents_of routes index) placed demand plan

-- The first so many demands are placed, each beside those before it.
abbrev pub ArePlaced : Plant → RouteTables → List ℕ → List FramePlan → Type 0
ArePlaced plant routes order plans = (n : ℕ) (plan : FramePlan) → slice_get plans n ≡ Some plan →
    IsPlacedAt plant routes order (take n plans) n plan

-- First fit places all demands.
pub record IsFit (plant : Plant) (routes : RouteTables) (plans : List FramePlan) : Type 0 where
  pub order : List ℕ
  pub is_order : IsOrder plant order
  pub all : length plans ≡ length order
  pub placed : ArePlaced plant routes order plans

-- First fit overruns at a frame: it places those before, and no phase is left for this one.
pub record IsOverrun (plant : Plant) (routes : RouteTables) (frame : FrameId) : Type 0 where
  pub order : List ℕ
  pub is_order : IsOrder plant order
  pub plans : List FramePlan
  pub placed : ArePlaced plant routes order plans
  pub index : ℕ
  pub demand : Demand
  pub next : slice_get order (length plans) ≡ Some index
  pub there : IsDemandAt plant index demand
  pub named : demand.frame ≡ frame
  pub none : HasNoFit plant (parents_of routes index) plans demand
