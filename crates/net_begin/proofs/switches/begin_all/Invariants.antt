use Rattle.net_begin.proofs.Devices.{HaveBegunBelow}
use Rattle.net_begin.proofs.switches.begin_all.Given as goal

abbrev pub invariant-loop-index : goal.invariant-loop-index
invariant-loop-index l = HaveBegunBelow l.plant l.row l.k l.index l.fn.switches l.switches
