use Rattle.std.proofs.Common.{length, ◌-◌}
use Rattle.irt_top.proofs.plan.+store_bundles.Given as goal

abbrev pub decreases-store_bundles : goal.decreases-store_bundles
decreases-store_bundles g l = length l.devices.now - l.at
