use Rattle.net_parcels.proofs.Drained.{IsDraining}
use Rattle.net_parcels.proofs.sending.drain.Given as goal

abbrev pub invariant-loop-call : goal.invariant-loop-call
invariant-loop-call l = IsDraining l.fn.switch l.switch l.port.0 l.most l._call l.local l.sent
