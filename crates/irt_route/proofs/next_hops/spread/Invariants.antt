use Rattle.std.proofs.Common.{◌≡◌, ◌<◌, ℕ, None, get_or, length}
use Rattle.irt_base.specs.declared.limits.TheConstants.{MAX_DEVICES}
use Rattle.link_index.specs.Index.{peer_in}
use Rattle.irt_route.specs.NextHops.{IsNext}
use Rattle.irt_route.proofs.next_hops.spread.Given as goal

abbrev pub invariant-loop-device : goal.invariant-loop-device
invariant-loop-device l =
    record {
      long : length l.next ≡ MAX_DEVICES;
      are : (k : ℕ) → k < l.device → IsNext (peer_in l.index) l.table l.rounds k (get_or l.table k None) (get_or l.next k None);
    }
