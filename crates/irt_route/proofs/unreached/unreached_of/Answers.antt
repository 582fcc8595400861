use Rattle.link_index.specs.Index.{peer_in}
use Rattle.irt_route.proofs.Places.{consumer_within, unreached_in-more, unreached_in-done, item_again}
use Rattle.irt_route.proofs.unreached.unreached_of.Goals as goal

pub unreached_one-requires-clause-within : goal.unreached_one-requires-clause-within
unreached_one-requires-clause-within c =
    consumer_within _ c.args.demand.now c.as_slice-consumer-items.result.now c.loop-consumer.consumer-index _ c.requires.within
    c.as_slice-consumer-items.ensures c.loop-consumer-test.true

pub loop-consumer-preserved : goal.loop-consumer-preserved
loop-consumer-preserved c =
    unreached_in-more (peer_in c.args.network.now.index) c.args.demand.now c.as_slice-consumer-items.result.now c.loop-consumer.consumer-index _
    c.loop-consumer.first c.unreached_one.result c.first_of-first.result c.loop-consumer-test.true
    (item_again c.as_slice-consumer-items.result.now c.loop-consumer.consumer-index _ c.loop-consumer-test.true) c.loop-consumer.invariant
    c.unreached_one.ensures c.first_of-first.ensures

pub returns : goal.returns
returns c =
    unreached_in-done (peer_in c.args.network.now.index) c.args.demand.now c.as_slice-consumer-items.result.now c.loop-consumer.consumer-index
    c.loop-consumer.first c.as_slice-consumer-items.ensures c.loop-consumer-test.false c.loop-consumer.invariant
