use Rattle.net_begin.proofs.Devices.{HaveReleasedBelow}
use Rattle.net_begin.specs.Clocks.{begin_of}
use Rattle.net_begin.proofs.switches.release_all.Given as goal

abbrev pub invariant-loop-index : goal.invariant-loop-index
invariant-loop-index l = HaveReleasedBelow (begin_of l.plant l.row l.k) l.index l.fn.switches l.switches l.fn.queue l.queue
