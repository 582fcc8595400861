use Rattle.std.proofs.Common.{take, map}
use Rattle.link_index.specs.Index.{peer_in}
use Rattle.irt_route.specs.Routes.{AreTrafficWalks}
use Rattle.irt_route.proofs.routing.traffic_walks.Given as goal

abbrev pub invariant-loop-at : goal.invariant-loop-at
invariant-loop-at l = AreTrafficWalks (peer_in l.network.index) (take l.at l.entries) (map (λ w. w.items) l.walks)
