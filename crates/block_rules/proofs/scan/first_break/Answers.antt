use Rattle.block_rules.proofs.Least.{holds_everywhere}
use Rattle.block_rules.proofs.scan.first_break.Goals as goal

pub returns : goal.returns
returns c = holds_everywhere c.args.rule c.args.plant.now c.args.bundles.now c.loop-device.device c.loop-device-test.false c.loop-device.invariant
