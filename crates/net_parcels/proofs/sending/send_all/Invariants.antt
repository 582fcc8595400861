use Rattle.net_parcels.proofs.Sendings.{AreSending}
use Rattle.net_parcels.proofs.sending.send_all.Given as goal

abbrev pub invariant-loop-index : goal.invariant-loop-index
invariant-loop-index l = AreSending l.fn.switches l.switches l.fn.outlets l.outlets l.index
