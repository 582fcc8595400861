use Rattle.plan_blocks.proofs.Ports.{ArePortsBelow}
use Rattle.plan_blocks.proofs.bundle.periods_of.Given as goal

abbrev pub invariant-loop-port : goal.invariant-loop-port
invariant-loop-port l = ArePortsBelow l.orange l.tx l.rx l.device.0 l.port l.ports
