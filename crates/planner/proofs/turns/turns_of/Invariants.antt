use Rattle.planner.proofs.Turned.{AreTurnsBelow}
use Rattle.planner.proofs.turns.turns_of.Given as goal

abbrev pub invariant-loop-place : goal.invariant-loop-place
invariant-loop-place l = AreTurnsBelow l.demands l.ways l.place l.turns.items
