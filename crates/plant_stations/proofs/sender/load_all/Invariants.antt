use Rattle.plant_stations.proofs.Senders.{AreSentTo}
use Rattle.plant_stations.proofs.sender.load_all.Given as goal

abbrev pub invariant-loop-index : goal.invariant-loop-index
invariant-loop-index l = AreSentTo l.senders l.k l.outputs l.fn.frames l.frames l.index
