use Rattle.std.proofs.Common.{sym}
use Rattle.link_index.specs.Index.{peer_in}
use Rattle.irt_route.proofs.Places.{demand_within, unreached-more, unreached-done}
use Rattle.irt_route.proofs.unreached.first_unreached.Goals as goal

pub unreached_of-requires-clause-within : goal.unreached_of-requires-clause-within
unreached_of-requires-clause-within c =
    demand_within _ c.args.demands.now c.loop-demand.demand-index c.demand-item.result c.requires.within c.loop-demand-test.true c.demand-item.is

pub loop-demand-preserved : goal.loop-demand-preserved
loop-demand-preserved c =
    unreached-more (peer_in c.args.network.now.index) c.args.demands.now c.loop-demand.demand-index c.demand-item.result c.loop-demand.first
    c.unreached_of.result c.first_of-first.result c.loop-demand-test.true (sym c.demand-item.is) c.loop-demand.invariant c.unreached_of.ensures
    c.first_of-first.ensures

pub returns : goal.returns
returns c =
    unreached-done (peer_in c.args.network.now.index) c.args.demands.now c.loop-demand.demand-index c.loop-demand.first c.loop-demand-test.false
    c.loop-demand.invariant
