use Rattle.std.proofs.Common.{arith}
use Rattle.plan_rules.specs.Frames.{KeepsApart}
use Rattle.way_rules.proofs.Scans.{below_end}
use Rattle.way_rules.proofs.Clashes.{apart-later}
use Rattle.way_rules.proofs.clash.device_clash.Goals as goal

pub returns : goal.returns
returns c =
    below_end (KeepsApart c.args.plant.now c.args.bundles.now) c.args.device.0 c.loop-port.port c.loop-port.invariant
    (λ at of past. apart-later c.args.plant.now c.args.bundles.now at c.requires.plan.plan (omega (arith, past, c.loop-port-test.false)))
