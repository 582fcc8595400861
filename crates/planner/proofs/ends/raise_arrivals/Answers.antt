use Rattle.std.proofs.Common.{arith}
use Rattle.planner.proofs.Rising.{one_come, all_come}
use Rattle.planner.proofs.ends.raise_arrivals.Goals as goal

pub loop-arrival-preserved : goal.loop-arrival-preserved
loop-arrival-preserved c =
    one_come c.args.limits c.args.rate c.args.wire c.args.arrivals.now c.args.offsets.now c.loop-arrival.arrival-index _ c.args.ends.now c.loop-arrival.ends _
    c.loop-arrival-test.true c.loop-arrival.invariant (rw (c.arrival_end-end.ensures, c.from.ensures) at c.raise.ensures)

pub returns : goal.returns
returns c =
    all_come c.args.limits c.args.rate c.args.wire c.args.arrivals.now c.args.offsets.now c.loop-arrival.arrival-index c.args.ends.now c.loop-arrival.ends
    (omega (arith, c.loop-arrival-test.false, c.loop-arrival.auto.arrival-index-end)) c.loop-arrival.invariant
