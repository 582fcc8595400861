use Rattle.frame_ways.proofs.Most.{next_most}
use Rattle.frame_ways.proofs.layout.farthest.Goals as goal

pub loop-stop-preserved : goal.loop-stop-preserved
loop-stop-preserved c =
    next_most c.args.stops.now c.loop-stop.stop-index _ c.loop-stop.most c.raised-most.result c.loop-stop-test.true c.loop-stop.invariant c.raised-most.ensures
