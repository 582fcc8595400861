use Rattle.planner.proofs.Usable.{AreWaysBelow}
use Rattle.planner.proofs.ways.ways_of.Given as goal

abbrev pub invariant-loop-demand : goal.invariant-loop-demand
invariant-loop-demand l = AreWaysBelow l.plant l.routes l.demand l.ways
