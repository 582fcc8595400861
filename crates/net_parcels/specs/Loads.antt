-- The parcels that a network's switches and links have.
use Rattle.std.specs.Prelude.{◌≡◌, ℕ, List, [], length, Some, slice_get, slice_index_or, Contains}
use Rattle.irt_base.specs.declared.numbers.PortNo.{PortNo}
use Rattle.irt_base.specs.declared.plants.Plant.{Plant}
use Rattle.irt_base.specs.declared.plants.Traffic.{Traffic}
use Rattle.irt_switch.specs.State.{SwitchState, gate_of}
use Rattle.parcel_rules.specs.Cycle.{all_ports}
use Rattle.parcel_rules.specs.Loads.{Gates, Loads, gate_at}
use Rattle.parcel_rules.specs.Steps.{Step, steps_from}
use Rattle.parcel_rules.specs.declared.handed.Handed.{Handed}
use Rattle.period_gate.specs.Gate.{Waiting}

-- the same parcels wait at two gates; their periods do not matter
pub record HaveSameQueues (gate other : Waiting) : Type 0 where
  pub orange : gate.orange ≡ other.orange
  pub green : gate.green ≡ other.green

-- At each port of the plant those parcels wait that the rules have there.
abbrev pub HoldGates : Plant → List SwitchState → Gates → Type 0
HoldGates plant switches gates =
    (at : Step) (s : SwitchState) → Contains (all_ports plant) at → slice_get switches at.0.0 ≡ Some s →
    HaveSameQueues (gate_of s at.1.0) (gate_at gates at)

-- The parcels at the ports and on the way are those of the rules.
pub record HoldLoads (plant : Plant) (switches : List SwitchState) (handed : List Handed) (loads : Loads) : Type 0 where
  pub gates : HoldGates plant switches loads.gates
  pub flight : handed ≡ loads.flight

-- of each traffic entry the steps of its walk
pub record AreStepsOf (plant : Plant) (walks : List (List PortNo)) (steps : List (List Step)) : Type 0 where
  pub count : length steps ≡ length plant.traffic
  pub each : (number : ℕ) (t : Traffic) → slice_get plant.traffic number ≡ Some t →
      slice_get steps number ≡ Some (steps_from plant t.source (slice_index_or walks number []))

-- the steps are those of some walks
abbrev pub AreStepsOfSome : Plant → List (List Step) → Type 0
AreStepsOfSome plant steps = (walks : List (List PortNo)) × AreStepsOf plant walks steps
