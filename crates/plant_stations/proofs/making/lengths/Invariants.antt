use Rattle.std.proofs.Common.{◌≡◌, map, take}
use Rattle.irt_base.specs.declared.plants.Demand.{Demand}
use Rattle.plant_stations.proofs.making.lengths.Given as goal

abbrev pub invariant-loop-demand : goal.invariant-loop-demand
invariant-loop-demand l = l.lengths.items ≡ map (λ (d : Demand). d.length) (take l.demand-index l.demands)
