use Rattle.placement.proofs.Ends.{IsEndBelow}
use Rattle.placement.proofs.phases.last_end.Given as goal

abbrev pub invariant-loop-sending : goal.invariant-loop-sending
invariant-loop-sending l = IsEndBelow l.limits l.layout l.offsets l.sending-index l.end
