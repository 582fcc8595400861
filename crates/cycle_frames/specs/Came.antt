-- Which frames came to which devices in a cycle.
use Rattle.std.specs.Prelude.{◌≡◌, ◌≢◌, ◌↔◌, ℕ, List, Some, slice_get, AllPairs, Contains}
use Rattle.irt_base.specs.declared.plants.Demand.{Demand}
use Rattle.plan_rules.specs.Once.{HasToReach}
use Rattle.plan_rules.specs.Way.{Setup}
use Rattle.plan_rules.specs.World.{WorldRow}
use Rattle.cycle_frames.specs.declared.came.Came.{Came}

-- The list has, each once, the devices that a demand's frame has to reach in cycle k, with the demand's number.
pub record HaveCome (setup : Setup) (world : List WorldRow) (k : ℕ) (came : List Came) : Type 0 where
  pub once : AllPairs (λ (a b : Came). a ≢ b) came
  pub demanded : (c : Came) → Contains came c → (d : Demand) × (slice_get setup.plant.demands c.demand ≡ Some d)
  pub each : (c : Came) (d : Demand) → slice_get setup.plant.demands c.demand ≡ Some d →
      Contains came c ↔ HasToReach setup world k c.device.0 d.frame.0
