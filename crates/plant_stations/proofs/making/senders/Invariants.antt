use Rattle.std.proofs.Common.{take}
use Rattle.plant_stations.specs.Whole.{AreSenders}
use Rattle.plant_stations.proofs.making.senders.Given as goal

abbrev pub invariant-loop-index : goal.invariant-loop-index
invariant-loop-index l = AreSenders l.plant (take l.index l.bundles) l.senders.items
