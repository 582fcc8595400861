use Rattle.std.proofs.Common.{take}
use Rattle.link_index.specs.Index.{peer_in}
use Rattle.irt_route.specs.Routes.{AreTrees}
use Rattle.irt_route.proofs.routing.demand_trees.Given as goal

abbrev pub invariant-loop-demand : goal.invariant-loop-demand
invariant-loop-demand l = AreTrees (peer_in l.network.index) (take l.demand-index l.demands) l.trees
