use Rattle.std.proofs.Common.{refl, sym, ◌∙◌, ap}
use Rattle.std.proofs.lemmas.Option.{same_Some}
use Rattle.irt_base.specs.Cycle.{wire_time}
use Rattle.irt_base.specs.declared.plants.Demand.{Demand}
use Rattle.fit_rules.specs.Order.{parents_of}
use Rattle.frame_ways.proofs.Lists.{item_read}
use Rattle.frame_ways.proofs.Routed.{routed_at, entry_tree, provided}
use Rattle.frame_ways.proofs.StopFacts.{usable, low_bits}
use Rattle.frame_ways.proofs.Whole.{frame_way}
use Rattle.frame_ways.proofs.way.way_of.Goals as goal

pub stops_of-requires-clause-tree : goal.stops_of-requires-clause-tree
stops_of-requires-clause-tree c =
    let plant = c.args.plant.now in
    let x = c.index-as_slice-demand.result in
    let item = item_read plant.demands c.as_slice.result.now c.args.demand c.args.demand x c.as_slice.ensures refl c.requires.there c.index-as_slice-demand.is in
    entry_tree plant (parents_of c.args.routes.now c.args.demand) x c.in_ok-base.base (c.in_ok-base.ensures x item)

pub stops_of-requires-clause-provided : goal.stops_of-requires-clause-provided
stops_of-requires-clause-provided c =
    let plant = c.args.plant.now in
    let x = c.index-as_slice-demand.result in
    let item = item_read plant.demands c.as_slice.result.now c.args.demand c.args.demand x c.as_slice.ensures refl c.requires.there c.index-as_slice-demand.is in
    provided plant (parents_of c.args.routes.now c.args.demand) x c.in_ok-base.base (c.in_ok-base.ensures x item)

pub anchors_of-requires-clause-usable : goal.anchors_of-requires-clause-usable
anchors_of-requires-clause-usable c =
    let plant = c.args.plant.now in
    let parents = parents_of c.args.routes.now c.args.demand in
    let x = c.index-as_slice-demand.result in
    let item = item_read plant.demands c.as_slice.result.now c.args.demand c.args.demand x c.as_slice.ensures refl c.requires.there c.index-as_slice-demand.is in
    let routed = routed_at plant c.args.routes.now c.args.demand x c.requires.routes item (c.ways_are_one.ensures.mutual plant c.requires.routes.rules)
    c.ways_are_one.ensures.parents c.ways_are_one.ensures.windows c.parents_of_trees.ensures.one c.parents_of_trees.ensures.start c.chains_of_trees.ensures.chain
    c.chains_of_trees.ensures.leaves in
    rw c.as_slice-2.ensures (usable plant parents x routed c.in_ok-base.base (c.in_ok-base.ensures x item) c.in_ok-stops.stops c.in_ok-stops.ensures)

pub sendings_of-requires-clause-low : goal.sendings_of-requires-clause-low
sendings_of-requires-clause-low c =
    let plant = c.args.plant.now in
    let parents = parents_of c.args.routes.now c.args.demand in
    let x = c.index-as_slice-demand.result in
    let item = item_read plant.demands c.as_slice.result.now c.args.demand c.args.demand x c.as_slice.ensures refl c.requires.there c.index-as_slice-demand.is in
    let routed = routed_at plant c.args.routes.now c.args.demand x c.requires.routes item (c.ways_are_one.ensures.mutual plant c.requires.routes.rules)
    c.ways_are_one.ensures.parents c.ways_are_one.ensures.windows c.parents_of_trees.ensures.one c.parents_of_trees.ensures.start c.chains_of_trees.ensures.chain
    c.chains_of_trees.ensures.leaves in
    rw c.as_slice-3.ensures (low_bits plant parents x routed c.in_ok-base.base (c.in_ok-base.ensures x item) c.in_ok-stops.stops c.in_ok-stops.ensures)

pub returns : goal.returns
returns c =
    λ d is.
    let plant = c.args.plant.now in
    let parents = parents_of c.args.routes.now c.args.demand in
    let x = c.index-as_slice-demand.result in
    let item = item_read plant.demands c.as_slice.result.now c.args.demand c.args.demand x c.as_slice.ensures refl c.requires.there c.index-as_slice-demand.is in
    let routed = routed_at plant c.args.routes.now c.args.demand d c.requires.routes is (c.ways_are_one.ensures.mutual plant c.requires.routes.rules)
    c.ways_are_one.ensures.parents c.ways_are_one.ensures.windows c.parents_of_trees.ensures.one c.parents_of_trees.ensures.start c.chains_of_trees.ensures.chain
    c.chains_of_trees.ensures.leaves in
    frame_way plant parents d routed c.in_ok-base.base (c.in_ok-base.ensures d is) c.in_ok-stops.stops c.in_ok-stops.ensures c.args.index.now c.requires.index
    c.wire.result c.farthest.result c.in_ok-anchors_of.field-0 c.in_ok-sendings_of.field-0 c.in_ok-arrivals.arrivals
    (c.wire.ensures ∙ ap (λ (y : Demand). wire_time y.length) (same_Some x d (sym item ∙ is)))
    (rw c.as_slice-2.ensures at c.in_ok-anchors_of.ensures) (rw c.as_slice-3.ensures at c.in_ok-sendings_of.ensures)
    (rw c.as_slice-4.ensures at c.in_ok-arrivals.ensures) (rw c.as_slice-5.ensures at c.farthest.ensures)
