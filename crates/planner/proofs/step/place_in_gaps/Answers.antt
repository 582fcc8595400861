use Rattle.placement.specs.Placings.{rate_of}
use Rattle.planner.proofs.Slots.{clear_slots}
use Rattle.planner.proofs.step.place_in_gaps.Goals as goal

pub add_placed-requires-clause-clear : goal.add_placed-requires-clause-clear
add_placed-requires-clause-clear c =
    clear_slots c.limits_of-limits.result (rate_of c.ratio_of-ratio.result c.in-Some.placing.phase) c.args.way.now.layout c.args.placed.now.gaps
    c.in-Some.placing.offsets c.requires.way.layout c.in-Some.ensures.found.placed
