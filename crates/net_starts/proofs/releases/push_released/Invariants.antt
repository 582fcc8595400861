use Rattle.std.proofs.Common.{◌≡◌, length}
use Rattle.net_starts.proofs.Releasing.{IsReleasing}
use Rattle.net_starts.proofs.releases.push_released.Given as goal

abbrev pub invariant-loop-out : goal.invariant-loop-out
invariant-loop-out l = record {
  releasing : IsReleasing l.begin.at l.begin.device.0 l.fn.switch.left l.switch.left l.fn.queue l.queue;
  switch : l.switch ≡ record l.fn.switch { left = l.switch.left };
}

abbrev pub decreases-loop-out : goal.decreases-loop-out
decreases-loop-out l = length l.switch.left
