use Rattle.plan_blocks.specs.Ends.{Raises, IsDueEnd}
use Rattle.plan_blocks.proofs.ends.LastEnds.raise.Given as goal

abbrev pub invariant-loop-k : goal.invariant-loop-k
invariant-loop-k l = Raises (IsDueEnd l.rate l.device.0 l.port.0 l.end l.k) l.initial.self l.self
