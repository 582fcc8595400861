-- What stands behind the frames that are placed.
use Rattle.std.proofs.Common.{ℕ}
use Rattle.irt_base.specs.declared.plants.Demand.{Demand}
use Rattle.irt_base.specs.declared.plants.Plant.{Plant}
use Rattle.irt_route.specs.Routes.{RouteTables, IsRoutesOf}
use Rattle.plant_rules.specs.Meets.{IsDemand}
use Rattle.fit_rules.specs.Order.{IsDemandAt, parents_of}
use Rattle.fit_rules.proofs.Known.{Known}
use Rattle.fit_rules.proofs.Lists.{each_at}
use Rattle.fit_rules.proofs.Routed.{IsRouted}

pub routed_at : Known → (plant : Plant) (routes : RouteTables) (index : ℕ) (demand : Demand) → IsRoutesOf plant routes → IsDemandAt plant index demand →
    IsRouted plant (parents_of routes index) demand
routed_at known plant routes index demand are at = record {
  known = known;
  rules = are.rules;
  valid = each_at (IsDemand plant) plant.demands index demand are.rules.demands at;
  tree = are.trees index demand at;
}

pub valid_at : (plant : Plant) (routes : RouteTables) (index : ℕ) (demand : Demand) → IsRoutesOf plant routes → IsDemandAt plant index demand → IsDemand plant demand
valid_at plant routes index demand are at = each_at (IsDemand plant) plant.demands index demand are.rules.demands at
