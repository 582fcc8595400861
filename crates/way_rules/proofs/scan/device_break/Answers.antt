use Rattle.std.proofs.Common.{arith}
use Rattle.way_rules.proofs.Scans.{below_all}
use Rattle.way_rules.proofs.scan.device_break.Goals as goal

pub returns : goal.returns
returns g c =
    below_all c.args.device.0 g.R.EntryRule.PORTS _ (g.R.EntryRule.Holds c.args.plant.now c.args.bundles.now)
    (c.holds_later.ensures c.args.plant.now c.args.bundles.now c.requires.plan.plan c.args.device.0) g.met.R.EntryRule.some_port
    (omega (arith, c.PORTS-port-end.ensures, c.loop-port-test.false)) c.loop-port.invariant
