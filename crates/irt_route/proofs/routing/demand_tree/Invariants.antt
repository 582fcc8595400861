use Rattle.std.proofs.Common.{take}
use Rattle.link_index.specs.Index.{peer_in}
use Rattle.irt_route.specs.Routes.{IsAmong}
use Rattle.irt_route.specs.Trees.{IsTreeStep, AreParents}
use Rattle.irt_route.proofs.routing.demand_tree.Given as goal

abbrev pub invariant-loop-consumer : goal.invariant-loop-consumer
invariant-loop-consumer l =
    AreParents (IsTreeStep (peer_in l.network.index) l.demand.provider.0 (IsAmong (take l.consumer-index l.consumer-items))) l.parents
