use Rattle.placement.proofs.Steps.{IsBehindSome}
use Rattle.placement.proofs.search.behind_slots.Given as goal

abbrev pub invariant-loop-k : goal.invariant-loop-k
invariant-loop-k l = IsBehindSome l.limits l.rate l.wire l.gaps l.sending l.k l.fn.offset l.at
