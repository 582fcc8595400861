use Rattle.net_parcels.proofs.Placing.{port_more}
use Rattle.net_parcels.proofs.outlets.push_ports.Goals as goal

pub loop-number-preserved : goal.loop-number-preserved
loop-number-preserved c = port_more _ _ _ c.args.device c.loop-number.number c.loop-number.invariant c.in_ok-push.ensures.ok
