use Rattle.std.proofs.Common.{arith}
use Rattle.iso_run.proofs.OneCycle.{cycle_told}
use Rattle.iso_run.proofs.Places.{all_from_places}
use Rattle.iso_run.proofs.Stepping.{offered_fresh, offered_ready, offered_serve, shown_ready, stepped_ready}
use Rattle.iso_run.proofs.cycle.run_cycle.Goals as goal

pub step-requires-clause-ends : goal.step-requires-clause-ends
step-requires-clause-ends g c =
    let (states, l) = c.requires.lockstep in
    offered_serve l.runs _ _ _ _ _ l.between c.offer_all.ensures.apps c.offer_all.ensures.ends

pub step-requires-clause-fresh : goal.step-requires-clause-fresh
step-requires-clause-fresh g c =
    let (states, l) = c.requires.lockstep in
    offered_fresh c.args.apps.now _ _ l.between.ready.count c.offer_all.ensures.ends

pub show_all-requires : goal.show_all-requires
show_all-requires g c =
    let (states, l) = c.requires.lockstep in
    stepped_ready _ _ _ _ _ (offered_ready _ _ _ _ l.between.ready c.offer_all.ensures.apps c.offer_all.ensures.ends) c.step.ensures

pub turn_all-requires-after_bounds : goal.turn_all-requires-after_bounds
turn_all-requires-after_bounds g c κs within =
    let (states, l) = c.requires.lockstep in
    let ready = offered_ready _ _ _ _ l.between.ready c.offer_all.ensures.apps c.offer_all.ensures.ends in
    all_from_places _ _ (shown_ready _ _ _ (stepped_ready _ _ _ _ _ ready c.step.ensures) c.show_all.ensures)

pub returns-clause-lockstep : goal.returns-clause-lockstep
returns-clause-lockstep g c = λ states l.
    let counted = c.step.ensures.done in
    let more = c.requires.open in
    let cycles = c.requires.cycles in
    cycle_told g.A.IsoApp.reply g.A.IsoApp.next_state states c.args.plant.now c.step.new.self c.args.apps.now c.offer_all.new.apps c.show_all.new.apps
    c.turn_all.new.apps c.args.ends.now.ends.items c.offer_all.new.ends.ends.items c.step.new.ends.ends.items c.done.result c.turn_all.result l
    c.offer_all.ensures.apps c.offer_all.ensures.ends c.step.ensures c.done.ensures.replay c.show_all.ensures c.done.ensures.done c.turn_all.ensures
    (omega (arith, counted, more, cycles))
