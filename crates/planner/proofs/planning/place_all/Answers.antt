use Rattle.std.proofs.Common.{arith}
use Rattle.std.proofs.lemmas.Result.{err_from_is_err_and}
use Rattle.planner.specs.Turns.{order_of}
use Rattle.planner.proofs.Run.{none_running, turn_at, next_running, stopped, all_run}
use Rattle.planner.proofs.planning.place_all.Goals as goal

pub loop-turn-init : goal.loop-turn-init
loop-turn-init c = none_running c.args.plant.now c.args.ways.now (order_of c.args.turns.now) c.in_ok-placed.placed c.in_ok-placed.ensures

pub loop-turn-preserved : goal.loop-turn-preserved
loop-turn-preserved c =
    let at = turn_at c.args.plant.now c.args.ways.now c.args.turns.now c.loop-turn.turn-index _ c.from-place.result c.as_slice.result.now
    c.index-as_slice-place.result c.index-ways-place.result c.loop-turn-test.true c.from-place.ensures c.as_slice.ensures c.index-as_slice-place.is c.index-ways-place.is
    c.requires.count c.requires.turns in
    next_running c.args.plant.now c.args.ways.now c.args.turns.now c.loop-turn.turn-index _ c.index-as_slice-place.result c.index-ways-place.result c.loop-turn.placed
    at.inside at.is at.there at.has c.loop-turn.invariant _ c.in_ok-place_frame.ensures

pub returns-in_err-place_frame : goal.returns-in_err-place_frame
returns-in_err-place_frame c =
    let at = turn_at c.args.plant.now c.args.ways.now c.args.turns.now c.loop-turn.turn-index _ c.from-place.result c.as_slice.result.now
    c.index-as_slice-place.result c.index-ways-place.result c.loop-turn-test.true c.from-place.ensures c.as_slice.ensures c.index-as_slice-place.is c.index-ways-place.is
    c.requires.count c.requires.turns in
    let p = err_from_is_err_and c.from_residual-in_err-place_frame.result c.from_residual-in_err-place_frame.ensures.1 in
    rw (p.1, p.2)
    (stopped c.args.plant.now c.args.ways.now c.args.turns.now c.loop-turn.turn-index _ c.index-as_slice-place.result c.index-ways-place.result c.loop-turn.placed
    at.inside at.is at.there at.has c.loop-turn.invariant c.place_frame.new.placed c.in_err-place_frame.field-0.0 c.in_err-place_frame.ensures)

pub returns : goal.returns
returns c =
    all_run c.args.plant.now c.args.ways.now c.args.turns.now c.loop-turn.turn-index c.loop-turn.placed
    (omega (arith, c.loop-turn-test.false, c.loop-turn.auto.turn-index-end)) c.loop-turn.invariant
