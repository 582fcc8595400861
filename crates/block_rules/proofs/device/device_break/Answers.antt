use Rattle.block_rules.proofs.Least.{alone_at}
use Rattle.block_rules.proofs.device.device_break.Goals as goal

pub returns-then-holds : goal.returns-then-holds
returns-then-holds c = alone_at c.args.rule c.args.plant.now c.args.bundles.now c.args.device (c.holds.ensures.0 c.if-holds.true)
