use Rattle.planner.proofs.Rising.{AreSent}
use Rattle.planner.proofs.ends.raise_sendings.Given as goal

abbrev pub invariant-loop-sending : goal.invariant-loop-sending
invariant-loop-sending l = AreSent l.limits l.rate l.layout l.offsets l.sending-index l.initial.ends l.ends
