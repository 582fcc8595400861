use Rattle.std.proofs.Common.{length, ◌-◌}
use Rattle.irt_top.proofs.check.+load_bundles.Given as goal

abbrev pub decreases-load_bundles : goal.decreases-load_bundles
decreases-load_bundles g l = length l.devices.now - length l.front
