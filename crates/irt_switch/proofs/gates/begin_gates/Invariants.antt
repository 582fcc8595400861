use Rattle.irt_switch.proofs.Begun.{AreBegunBelow}
use Rattle.irt_switch.proofs.gates.begin_gates.Given as goal

abbrev pub invariant-loop-index : goal.invariant-loop-index
invariant-loop-index l = AreBegunBelow l.bundle l.k l.index l.fn.gates l.gates
