use Rattle.std.proofs.Common.{sym, ◌∙◌}
use Rattle.std.proofs.lemmas.Bool.{false≢true}
use Rattle.std.proofs.lemmas.Result.{on_ok_weaker}
use Rattle.frame_ways.proofs.Devices.{small_stop}
use Rattle.frame_ways.proofs.Growth.{added_there, stop_skipped, stop_grown}
use Rattle.frame_ways.proofs.Lists.{item_there}
use Rattle.frame_ways.proofs.stops.add_by.Goals as goal

pub next_stop-next-requires-clause-stands : goal.next_stop-next-requires-clause-stands
next_stop-next-requires-clause-stands c =
    let there = item_there c.args.stops.now c.as_slice.result.now c.args.at _ c.as_slice.ensures c.requires.there in
    (c.requires.stops.each c.args.at _ there).stands

pub next_stop-next-requires-clause-small : goal.next_stop-next-requires-clause-small
next_stop-next-requires-clause-small c =
    let there = item_there c.args.stops.now c.as_slice.result.now c.args.at _ c.as_slice.ensures c.requires.there in
    (small_stop c.args.plant.now c.requires.rules c.args.base.now c.requires.tree c.args.stops.now c.args.at c.args.port.0 c.requires.stops c.args.at _ there c.requires.there).0

pub next_stop-next-requires-clause-ordered : goal.next_stop-next-requires-clause-ordered
next_stop-next-requires-clause-ordered c =
    let there = item_there c.args.stops.now c.as_slice.result.now c.args.at _ c.as_slice.ensures c.requires.there in
    (c.requires.stops.each c.args.at _ there).ordered

pub next_stop-next-requires-clause-few : goal.next_stop-next-requires-clause-few
next_stop-next-requires-clause-few c =
    let there = item_there c.args.stops.now c.as_slice.result.now c.args.at _ c.as_slice.ensures c.requires.there in
    (small_stop c.args.plant.now c.requires.rules c.args.base.now c.requires.tree c.args.stops.now c.args.at c.args.port.0 c.requires.stops c.args.at _ there c.requires.there).1

pub returns-clause-there : goal.returns-clause-there
returns-clause-there c =
    on_ok_weaker c.add_stop.result (added_there c.next_stop-next.result c.args.stops.now c.add_stop.new.stops c.args.at c.requires.there) c.add_stop.ensures

pub returns-then-not-leaves_by-clause-stops : goal.returns-then-not-leaves_by-clause-stops
returns-then-not-leaves_by-clause-stops c =
    let there = item_there c.args.stops.now c.as_slice.result.now c.args.at _ c.as_slice.ensures c.requires.there in
    stop_skipped c.args.plant.now c.args.base.now c.requires.tree c.args.stops.now c.args.at c.args.port.0 _ c.requires.stops there
    (λ out. false≢true (sym c.if-not-leaves_by.true ∙ c.leaves_by.ensures.1 out))

pub returns-clause-stops : goal.returns-clause-stops
returns-clause-stops c =
    let there = item_there c.args.stops.now c.as_slice.result.now c.args.at _ c.as_slice.ensures c.requires.there in
    on_ok_weaker c.add_stop.result
    (stop_grown c.args.plant.now c.args.base.now c.requires.tree c.args.stops.now c.args.at c.args.port.0 _ c.requires.stops there
    (c.leaves_by.ensures.0 c.if-not-leaves_by.false) c.next_stop-next.result c.next_stop-next.ensures c.add_stop.new.stops) c.add_stop.ensures
