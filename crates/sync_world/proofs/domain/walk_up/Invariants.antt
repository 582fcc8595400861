use Rattle.std.proofs.Common.{◌≡◌, ◌++◌}
use Rattle.irt_route.specs.Clocks.{hops_in}
use Rattle.sync_world.specs.Domain.{walk_up}
use Rattle.sync_world.proofs.domain.walk_up.Given as goal

abbrev pub invariant-loop-left : goal.invariant-loop-left
invariant-loop-left l = l.walk ++ walk_up l.tree l.left l.at ≡ walk_up l.tree (hops_in l.tree l.fn.device.0) l.fn.device

abbrev pub decreases-loop-left : goal.decreases-loop-left
decreases-loop-left l = l.left
