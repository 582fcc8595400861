use Rattle.block_rules.proofs.Least.{header_rule}
use Rattle.block_rules.proofs.device.holds.Goals as goal

pub returns-in-Header : goal.returns-in-Header
returns-in-Header c =
    header_rule c.args.rule c.args.plant.now c.args.bundles.now c.args.device c.device_at.result.now c.bundle_at-first.result.now c.bundle_at-own.result.now
    c.is_header.result c.in-Header.is c.device_at.ensures c.bundle_at-first.ensures c.bundle_at-own.ensures c.is_header.ensures
