use Rattle.planner.specs.Turns.{order_of}
use Rattle.planner.proofs.Run.{IsRunning}
use Rattle.planner.proofs.planning.place_all.Given as goal

abbrev pub invariant-loop-turn : goal.invariant-loop-turn
invariant-loop-turn l = IsRunning l.plant l.ways (order_of l.turns) l.turn-index l.placed
