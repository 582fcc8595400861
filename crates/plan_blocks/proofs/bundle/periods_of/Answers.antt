use Rattle.std.proofs.Common.{◌+◌, refl}
use Rattle.plan_blocks.proofs.Ports.{one_port}
use Rattle.plan_blocks.proofs.bundle.periods_of.Goals as goal

pub loop-port-preserved : goal.loop-port-preserved
loop-port-preserved c =
    rw c.in_ok-push.ensures.ok (one_port c.args.orange c.args.tx.now c.args.rx.now c.args.device.0 c.loop-port.port (c.loop-port.port + 1) c.loop-port.ports
    c.in_ok-port_periods.field-0 refl c.loop-port.invariant c.in_ok-port_periods.ensures)
