use Rattle.plant_stations.proofs.Playing.{PlayedTo}
use Rattle.plant_stations.proofs.stations.play_all.Given as goal

abbrev pub invariant-loop-index : goal.invariant-loop-index
invariant-loop-index l = PlayedTo l.apps l.frames l.came l.k l.fn.receivers l.fn.images l.receivers l.images l.index
