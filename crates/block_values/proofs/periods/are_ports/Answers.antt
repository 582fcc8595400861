use Rattle.std.proofs.Common.{arith}
use Rattle.irt_base.specs.Valid.{IsPortPeriods}
use Rattle.block_values.proofs.Judging.{all_pass, one_fails}
use Rattle.block_values.proofs.periods.are_ports.Goals as goal

pub returns-then-not-is_port : goal.returns-then-not-is_port
returns-then-not-is_port c = one_fails IsPortPeriods c.args.ports.now c.is_port.result c.loop-port.port-index c.port-item.result c.loop-port-test.true c.port-item.is c.is_port.ensures c.if-not-is_port.true

pub returns : goal.returns
returns c = all_pass IsPortPeriods c.args.ports.now (λ k d below. c.loop-port.invariant k d (omega arith))
