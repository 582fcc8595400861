use Rattle.std.proofs.lemmas.Result.{err_from_is_err_and}
use Rattle.planner.proofs.Planned.{ready_of, turns_inside, frames_differ, is_first_fit, is_fault}
use Rattle.planner.proofs.planning.first_fit.Goals as goal

pub place_all-requires-clause-turns : goal.place_all-requires-clause-turns
place_all-requires-clause-turns c =
    let ready = ready_of c.args.plant.now c.args.routes.now c.in_ok-ways.ways c.as_slice-2.result.now c.as_slice-3.result.now c.as_slice.result.now
    c.in_ok-turns.turns.items c.in_order-turns.result.items c.as_slice-4.result.now c.in_ok-ways.ensures.ways c.as_slice-2.ensures c.as_slice.ensures
    c.in_ok-turns.ensures c.in_order-turns.ensures.same c.in_order-turns.ensures.sorted c.as_slice-4.ensures.value c.as_slice-3.ensures in
    turns_inside c.args.plant.now c.args.routes.now c.requires.routes c.as_slice-3.result.now c.as_slice-4.result.now ready

pub returns-in_err-placed-clause-fault : goal.returns-in_err-placed-clause-fault
returns-in_err-placed-clause-fault c =
    let ready = ready_of c.args.plant.now c.args.routes.now c.in_ok-ways.ways c.as_slice-2.result.now c.as_slice-3.result.now c.as_slice.result.now
    c.in_ok-turns.turns.items c.in_order-turns.result.items c.as_slice-4.result.now c.in_ok-ways.ensures.ways c.as_slice-2.ensures c.as_slice.ensures
    c.in_ok-turns.ensures c.in_order-turns.ensures.same c.in_order-turns.ensures.sorted c.as_slice-4.ensures.value c.as_slice-3.ensures in
    let p = err_from_is_err_and c.from_residual-in_err-placed.result c.from_residual-in_err-placed.ensures.1 in
    rw (p.1, p.2)
    (is_fault c.args.plant.now c.args.routes.now c.requires.routes c.as_slice-3.result.now c.as_slice-4.result.now ready c.in_err-placed.field-0.0
    (c.in_err-placed.ensures c.args.routes.now c.requires.routes ready.known))

pub placed_bundles-requires-clause-differ : goal.placed_bundles-requires-clause-differ
placed_bundles-requires-clause-differ c =
    let ready = ready_of c.args.plant.now c.args.routes.now c.in_ok-ways.ways c.as_slice-2.result.now c.as_slice-3.result.now c.as_slice.result.now
    c.in_ok-turns.turns.items c.in_order-turns.result.items c.as_slice-4.result.now c.in_ok-ways.ensures.ways c.as_slice-2.ensures c.as_slice.ensures
    c.in_ok-turns.ensures c.in_order-turns.ensures.same c.in_order-turns.ensures.sorted c.as_slice-4.ensures.value c.as_slice-3.ensures in
    frames_differ c.args.plant.now c.args.routes.now c.requires.routes c.as_slice-3.result.now c.as_slice-4.result.now ready c.in_ok-placed.placed
    (c.in_ok-placed.ensures c.args.routes.now c.requires.routes ready.known)

pub returns-clause-first_fit : goal.returns-clause-first_fit
returns-clause-first_fit c =
    let ready = ready_of c.args.plant.now c.args.routes.now c.in_ok-ways.ways c.as_slice-2.result.now c.as_slice-3.result.now c.as_slice.result.now
    c.in_ok-turns.turns.items c.in_order-turns.result.items c.as_slice-4.result.now c.in_ok-ways.ensures.ways c.as_slice-2.ensures c.as_slice.ensures
    c.in_ok-turns.ensures c.in_order-turns.ensures.same c.in_order-turns.ensures.sorted c.as_slice-4.ensures.value c.as_slice-3.ensures in
    is_first_fit c.args.plant.now c.args.routes.now c.requires.routes c.as_slice-3.result.now c.as_slice-4.result.now ready c.in_ok-placed.placed
    c.in_ok-bundles.bundles (c.in_ok-placed.ensures c.args.routes.now c.requires.routes ready.known) c.in_ok-bundles.ensures
