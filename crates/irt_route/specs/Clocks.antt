-- The clock tree: the best walks from device 0 to every device, and how many links they have.
use Rattle.std.specs.Prelude.{◌≡◌, ℕ, ◌<◌, ◌≤◌, ◌==◌, if◌then◌else◌, List, length, Option, Some, None, slice_index, ⊤}
use Rattle.irt_base.specs.Cycle.{budget_time}
use Rattle.irt_base.specs.declared.limits.TheConstants.{MAX_DEVICES}
use Rattle.irt_base.specs.Wiring.{peer_of}
use Rattle.irt_base.specs.declared.numbers.DevId.{DevId}
use Rattle.irt_base.specs.declared.numbers.PortNo.{PortNo}
use Rattle.irt_base.specs.declared.plants.Plant.{Plant}
use Rattle.irt_base.specs.declared.plants.SyncPlan.{SyncPlan}
use Rattle.plant_rules.specs.Clocks.{IsDistance}
use Rattle.plant_rules.specs.Meets.{MeetsRules}
use Rattle.irt_route.specs.declared.fault.ClockFault.{ClockFault}
use Rattle.irt_route.specs.declared.fault.ClockFault.TheVariants as faults
use Rattle.irt_route.specs.Walks.{Peers, IsWalk, IsApart, HasHops}
use Rattle.irt_route.specs.Trees.{Parents, parent_at, IsTreeStep, AreParents}

-- the parents of devices, and the links of their walks
pub record ClockTable : Type 0 where
  pub parents : Parents
  pub hops : List ℕ

abbrev pub clock_parent : ClockTable → ℕ → Option (DevId × PortNo)
clock_parent tree device = parent_at tree.parents device

abbrev pub hops_in : ClockTable → ℕ → ℕ
hops_in tree device = slice_index tree.hops device

-- the devices of a plant
abbrev pub IsDevice : Plant → ℕ → Type 0
IsDevice plant device = device < length plant.devices

-- the table is the clock tree of a plant that meets the rules
pub record IsClockTreeOf (plant : Plant) (tree : ClockTable) : Type 0 where
  pub rules : MeetsRules plant
  -- device 0 has no parent, each other device has the one from which the tree comes to it
  pub root : clock_parent tree 0 ≡ None
  pub parents : (device : ℕ) → 0 < device → IsDevice plant device
      → (from : DevId × PortNo) × (clock_parent tree device ≡ Some from) × IsTreeStep (peer_of plant) 0 (IsDevice plant) from device
  pub past : (device : ℕ) → length plant.devices ≤ device → clock_parent tree device ≡ None
  -- the hops are the links of the best walk, and so the distance by which rule P18 counts
  pub hops : (device : ℕ) → IsDevice plant device → HasHops (peer_of plant) 0 device (hops_in tree device)
  pub distance : (device : ℕ) → IsDevice plant device → IsDistance plant device (hops_in tree device)
  pub small : (device : ℕ) → hops_in tree device < 256

-- by how much a clock may be off: device 0 has the clock that the others follow
abbrev pub clock_budget : ClockTable → SyncPlan → ℕ → ℕ → ℕ → ℕ
clock_budget tree sync device send timeout =
    if device == 0 then 0 else budget_time (hops_in tree device) sync.stamp sync.drift send timeout

-- the least of so many devices to which no walk leads
pub record IsCutOff (peers : Peers) (devices device : ℕ) : Type 0 where
  pub there : device < devices
  pub apart : IsApart peers 0 device
  pub least : (other : ℕ) → other < device → (ports : List PortNo) × IsWalk peers 0 ports other

-- what refuses a plant
abbrev pub IsClockFault : Plant → ClockFault → Type 0
IsClockFault plant faults.NoMemory = ⊤
IsClockFault plant (faults.NoClock device) = IsCutOff (peer_of plant) (length plant.devices) device.0

-- The same of so many devices, by what is at the other ends of ports.
pub record HasClocks (peers : Peers) (devices : ℕ) (parents : Parents) (hops : List ℕ) : Type 0 where
  pub tree : AreParents (IsTreeStep peers 0 (λ d. d < devices)) parents
  pub long : length hops ≡ MAX_DEVICES
  pub links : (device : ℕ) → device < devices → HasHops peers 0 device (slice_index hops device)
  pub small : (device : ℕ) → slice_index hops device < 256

abbrev pub IsGrownTree : Peers → ℕ → ClockTable → Type 0
IsGrownTree peers devices tree = HasClocks peers devices tree.parents tree.hops

abbrev pub IsGrownFault : Peers → ℕ → ClockFault → Type 0
IsGrownFault peers devices faults.NoMemory = ⊤
IsGrownFault peers devices (faults.NoClock device) = IsCutOff peers devices device.0
