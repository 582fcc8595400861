use Rattle.planner.proofs.Usable.{one_way}
use Rattle.planner.proofs.ways.ways_of.Goals as goal

pub loop-demand-preserved : goal.loop-demand-preserved
loop-demand-preserved c =
    let inside = rw c.len-demand-end.ensures at c.loop-demand-test.true in
    rw c.in_ok-push.ensures.ok
    (one_way c.args.plant.now c.args.routes.now c.loop-demand.demand c.loop-demand.ways c.in_ok-way_of.field-0 c.requires inside c.in_ok-way_of.ensures c.loop-demand.invariant)
