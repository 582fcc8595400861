use Rattle.std.proofs.Common.{◌≡◌, ◌<◌, ◌^◌, map, take}
use Rattle.std.specs.List.{AllByRecursion}
use Rattle.irt_base.specs.declared.plants.Demand.{Demand}
use Rattle.toml.specs.View.{view}
use Rattle.plant_print.specs.Written.{demand_data}
use Rattle.plant_print.proofs.tables.demands_value.Given as goal

abbrev pub invariant-loop-demand : goal.invariant-loop-demand
invariant-loop-demand l = (map view l.values.items ≡ map (demand_data l.plant.devices) (take l.demand-index l.plant.demands))
    × AllByRecursion (λ (x : Demand). x.update < 2 ^ 32) (take l.demand-index l.plant.demands)
