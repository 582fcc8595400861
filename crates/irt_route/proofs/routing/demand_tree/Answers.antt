use Rattle.link_index.specs.Index.{peer_in}
use Rattle.irt_route.proofs.Places.{consumer_within, item_again}
use Rattle.irt_route.proofs.RouteLaws.{tree_none, tree_more, tree_done}
use Rattle.irt_route.proofs.routing.demand_tree.Goals as goal

pub loop-consumer-init : goal.loop-consumer-init
loop-consumer-init c = tree_none (peer_in c.args.network.now.index) c.args.demand.now.provider.0

pub add_walk-requires-clause-there : goal.add_walk-requires-clause-there
add_walk-requires-clause-there c =
    consumer_within _ c.args.demand.now c.as_slice-consumer-items.result.now c.loop-consumer.consumer-index _ c.requires.within
    c.as_slice-consumer-items.ensures c.loop-consumer-test.true

pub loop-consumer-preserved : goal.loop-consumer-preserved
loop-consumer-preserved c =
    tree_more (peer_in c.args.network.now.index) c.args.demand.now.provider.0 c.as_slice-consumer-items.result.now c.loop-consumer.consumer-index _
    c.loop-consumer.parents c.add_walk.new.parents c.loop-consumer-test.true
    (item_again c.as_slice-consumer-items.result.now c.loop-consumer.consumer-index _ c.loop-consumer-test.true) c.loop-consumer.invariant
    c.in_ok-add_walk.ensures

pub returns : goal.returns
returns c =
    tree_done (peer_in c.args.network.now.index) c.args.demand.now.provider.0 c.args.demand.now c.as_slice-consumer-items.result.now
    c.loop-consumer.consumer-index c.loop-consumer.parents c.as_slice-consumer-items.ensures c.loop-consumer-test.false c.loop-consumer.invariant
