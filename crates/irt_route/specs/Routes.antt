-- Routes: the tree of each demand, and the walk of each traffic entry.
use Rattle.std.specs.Prelude.{◌≡◌, ℕ, ◌<◌, ◌≤◌, ◌⊎◌, ◌==◌, nat_lt, Bool, ◌&&◌, ◌||◌, if◌then◌else◌, List, [], length, Option, Some, None, Contains, slice_get, slice_index_or, ⊤}
use Rattle.irt_base.specs.Wiring.{peer_of}
use Rattle.irt_base.specs.declared.limits.TheConstants.{MAX_DEVICES}
use Rattle.irt_base.specs.declared.numbers.DevId.{DevId}
use Rattle.irt_base.specs.declared.numbers.FrameId.{FrameId}
use Rattle.irt_base.specs.declared.numbers.PortNo.{PortNo}
use Rattle.irt_base.specs.declared.plants.Demand.{Demand}
use Rattle.irt_base.specs.declared.plants.Traffic.{Traffic}
use Rattle.irt_base.specs.declared.plants.Plant.{Plant}
use Rattle.plant_rules.specs.Meets.{MeetsRules}
use Rattle.link_index.specs.declared.index.Wire.{Wire}
use Rattle.link_index.specs.Index.{peer_in}
use Rattle.irt_route.specs.declared.fault.RouteFault.{RouteFault}
use Rattle.irt_route.specs.declared.fault.RouteFault.TheVariants as faults
use Rattle.irt_route.specs.declared.next_hops.NextHops.{NextHops}
use Rattle.irt_route.specs.Walks.{Peers, IsWalk, IsBestWalk, IsApart}
use Rattle.irt_route.specs.NextHops.{IsWired, AreNextHops}
use Rattle.irt_route.specs.Trees.{Parents, parent_at, IsTreeParent, IsTreeStep, AreParents}

-- the parents of each demand's tree, and the ports of each traffic entry's walk
pub record RouteTables : Type 0 where
  pub parents : List Parents
  pub walks : List (List PortNo)

abbrev pub tree_parent : RouteTables → ℕ → ℕ → Option (DevId × PortNo)
tree_parent routes demand device = parent_at (slice_index_or routes.parents demand []) device

abbrev pub traffic_walk : RouteTables → ℕ → List PortNo
traffic_walk routes traffic = slice_index_or routes.walks traffic []

-- one of the devices has this number
abbrev pub IsAmong : List DevId → ℕ → Type 0
IsAmong devices device = (d : DevId) × Contains devices d × (d.0 ≡ device)

abbrev pub IsConsumer : Demand → ℕ → Type 0
IsConsumer demand device = IsAmong demand.consumers device

-- a tree to all consumers of a demand
pub record IsTreeOf (peers : Peers) (demand : Demand) (parents : Parents) : Type 0 where
  pub reached : (device : ℕ) → IsConsumer demand device → (ports : List PortNo) × IsBestWalk peers demand.provider.0 ports device
  pub tree : (device : ℕ) → IsTreeParent peers demand.provider.0 (IsConsumer demand) device (parent_at parents device)

-- the tables are the routes of a plant that meets the rules
pub record IsRoutesOf (plant : Plant) (routes : RouteTables) : Type 0 where
  pub rules : MeetsRules plant
  pub tree_count : length routes.parents ≡ length plant.demands
  pub walk_count : length routes.walks ≡ length plant.traffic
  pub trees : (index : ℕ) (demand : Demand) → slice_get plant.demands index ≡ Some demand
      → IsTreeOf (peer_of plant) demand (slice_index_or routes.parents index [])
  pub walks : (index : ℕ) (entry : Traffic) → slice_get plant.traffic index ≡ Some entry
      → IsBestWalk (peer_of plant) entry.source.0 (traffic_walk routes index) entry.target.0

-- no walk leads to a consumer of a demand of this frame
pub record IsUnreachedOf (peers : Peers) (demand : Demand) (frame device : ℕ) : Type 0 where
  pub frame_is : demand.frame.0 ≡ frame
  pub consumer : IsConsumer demand device
  pub apart : IsApart peers demand.provider.0 device

-- of this consumer
abbrev pub IsUnreachedOne : Peers → Demand → DevId → ℕ → ℕ → Type 0
IsUnreachedOne peers demand consumer frame device =
    (demand.frame.0 ≡ frame) × (consumer.0 ≡ device) × IsApart peers demand.provider.0 device

-- of one of the demands
abbrev pub IsUnreached : Peers → List Demand → ℕ → ℕ → Type 0
IsUnreached peers demands frame device = (demand : Demand) × Contains demands demand × IsUnreachedOf peers demand frame device

-- the first place, by frame and device, of those of which something holds
abbrev pub IsNotAfter : ℕ → ℕ → ℕ → ℕ → Type 0
IsNotAfter frame device other_frame other = (frame < other_frame) ⊎ ((frame ≡ other_frame) × (device ≤ other))

abbrev pub IsFirstPlace : (ℕ → ℕ → Type 0) → Option (FrameId × DevId) → Type 0
IsFirstPlace Holds None = (frame device : ℕ) → Holds frame device → ⊥
IsFirstPlace Holds (Some place) =
    Holds place.0.0 place.1.0 × ((frame device : ℕ) → Holds frame device → IsNotAfter place.0.0 place.1.0 frame device)

-- all consumers have walks
abbrev pub AreReached : Peers → List Demand → Type 0
AreReached peers demands =
    (demand : Demand) → Contains demands demand → (device : ℕ) → IsConsumer demand device
    → (ports : List PortNo) × IsBestWalk peers demand.provider.0 ports device

-- the traffic entry is the first without a walk
pub record IsFirstCutTraffic (peers : Peers) (entries : List Traffic) (index : ℕ) : Type 0 where
  pub entry : Traffic
  pub there : slice_get entries index ≡ Some entry
  pub apart : IsApart peers entry.source.0 entry.target.0
  pub first : (i : ℕ) (t : Traffic) → i < index → slice_get entries i ≡ Some t → (ports : List PortNo) × IsWalk peers t.source.0 ports t.target.0

-- what refuses a plant
abbrev pub IsFaultOf : Peers → List Demand → List Traffic → RouteFault → Type 0
IsFaultOf peers demands entries faults.NoMemory = ⊤
IsFaultOf peers demands entries (faults.Unreachable frame device) = IsFirstPlace (IsUnreached peers demands) (Some (frame, device))
IsFaultOf peers demands entries (faults.NoPath traffic) =
    AreReached peers demands × IsFirstCutTraffic peers entries traffic

abbrev pub IsRouteFault : Plant → RouteFault → Type 0
IsRouteFault plant fault = IsFaultOf (peer_of plant) plant.demands plant.traffic fault

-- The ways of all devices to each.
pub record AreAllNextHops (peers : Peers) (all : List NextHops) : Type 0 where
  pub wired : IsWired peers
  pub few : length all ≤ MAX_DEVICES
  pub ways : (device : ℕ) (ways : NextHops) → slice_get all device ≡ Some ways → (ways.target.0 ≡ device) × AreNextHops peers ways

abbrev pub IsNetwork : List (List (Option Wire)) → List NextHops → Type 0
IsNetwork rows all = AreAllNextHops (peer_in rows) all

-- the devices that a demand or a traffic entry names are on the network
abbrev pub IsDemandWithin : ℕ → Demand → Type 0
IsDemandWithin devices demand = (c : DevId) → Contains demand.consumers c → c.0 < devices

abbrev pub AreDemandsWithin : ℕ → List Demand → Type 0
AreDemandsWithin devices demands = (demand : Demand) → Contains demands demand → IsDemandWithin devices demand

-- the first of two places
abbrev pub is_before : FrameId × DevId → FrameId × DevId → Bool
is_before place other = nat_lt place.0.0 other.0.0 || (place.0.0 == other.0.0 && nat_lt place.1.0 other.1.0)

abbrev pub first_of : Option (FrameId × DevId) → Option (FrameId × DevId) → Option (FrameId × DevId)
first_of None other = other
first_of (Some place) None = Some place
first_of (Some place) (Some other) = if is_before other place then Some other else Some place

-- the devices of a traffic entry are on the network
abbrev pub AreTrafficWithin : ℕ → List Traffic → Type 0
AreTrafficWithin devices entries = (entry : Traffic) → Contains entries entry → (entry.source.0 < devices) × (entry.target.0 < devices)

-- of each demand its tree's parents
pub record AreTrees (peers : Peers) (demands : List Demand) (trees : List Parents) : Type 0 where
  pub count : length trees ≡ length demands
  pub each : (index : ℕ) (demand : Demand) → slice_get demands index ≡ Some demand
      → AreParents (IsTreeStep peers demand.provider.0 (IsConsumer demand)) (slice_index_or trees index [])

-- of each traffic entry its walk
pub record AreTrafficWalks (peers : Peers) (entries : List Traffic) (walks : List (List PortNo)) : Type 0 where
  pub count : length walks ≡ length entries
  pub each : (index : ℕ) (entry : Traffic) → slice_get entries index ≡ Some entry
      → IsBestWalk peers entry.source.0 (slice_index_or walks index []) entry.target.0

abbrev pub IsTrafficFault : Peers → List Traffic → RouteFault → Type 0
IsTrafficFault peers entries faults.NoMemory = ⊤
IsTrafficFault peers entries (faults.Unreachable frame device) = ⊥
IsTrafficFault peers entries (faults.NoPath traffic) = IsFirstCutTraffic peers entries traffic
