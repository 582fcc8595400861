use Rattle.placement.specs.Placings.{IsAnswerBelow}
use Rattle.placement.proofs.phases.best_placing.Given as goal

abbrev pub invariant-loop-phase : goal.invariant-loop-phase
invariant-loop-phase l = IsAnswerBelow l.limits l.ratio l.layout l.gaps l.phase l.best
