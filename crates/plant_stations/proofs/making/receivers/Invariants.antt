use Rattle.std.proofs.Common.{take}
use Rattle.plant_stations.specs.Whole.{AreNewConsumers}
use Rattle.plant_stations.proofs.making.receivers.Given as goal

abbrev pub invariant-loop-index : goal.invariant-loop-index
invariant-loop-index l = AreNewConsumers (take l.index l.apps) l.bundles l.receivers.items
