use Rattle.std.proofs.Common.{◌-◌}
use Rattle.link_index.specs.Index.{peer_in}
use Rattle.irt_route.proofs.Follow.{IsUnderWay}
use Rattle.irt_route.proofs.walks.follow.Given as goal

abbrev pub invariant-loop-link : goal.invariant-loop-link
invariant-loop-link l = IsUnderWay (peer_in l.index) l.fn.start.0 l.at.0 l.ways.target.0 (l.hops - l._link) l.walk.items
