use Rattle.placement.proofs.Steps.{IsBehindFirst}
use Rattle.placement.proofs.search.behind_all.Given as goal

abbrev pub invariant-loop-sending : goal.invariant-loop-sending
invariant-loop-sending l = IsBehindFirst l.limits l.rate l.layout l.gaps l.anchor.0 l.sending-index l.fn.offset l.at
