use Rattle.std.proofs.Common.{sym}
use Rattle.link_index.specs.Index.{peer_in}
use Rattle.irt_route.proofs.Places.{demand_within}
use Rattle.irt_route.proofs.RouteLaws.{trees_more}
use Rattle.irt_route.proofs.routing.demand_trees.Goals as goal

pub demand_tree-requires-clause-within : goal.demand_tree-requires-clause-within
demand_tree-requires-clause-within c =
    demand_within _ c.args.demands.now c.loop-demand.demand-index c.demand-item.result c.requires.demands c.loop-demand-test.true c.demand-item.is

pub loop-demand-preserved : goal.loop-demand-preserved
loop-demand-preserved c =
    trees_more (peer_in c.args.network.now.index) c.args.demands.now c.loop-demand.demand-index c.demand-item.result c.loop-demand.trees
    c.push.new.self c.in_ok-demand_tree.field-0 c.loop-demand-test.true (sym c.demand-item.is) c.loop-demand.invariant c.in_ok-demand_tree.ensures
    c.in_ok-push.ensures.ok
