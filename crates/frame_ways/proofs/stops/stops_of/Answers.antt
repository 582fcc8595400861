use Rattle.std.proofs.Common.{arith}
use Rattle.frame_ways.proofs.Devices.{few_stops}
use Rattle.frame_ways.proofs.Growth.{first_stops}
use Rattle.frame_ways.proofs.stops.stops_of.Goals as goal

pub loop-done-init : goal.loop-done-init
loop-done-init c = record {
  within = omega arith;
  are = rw (c.in_ok-push.ensures.ok, c.new-stops.ensures) (first_stops c.args.plant.now c.args.base.now c.requires.tree c.args.provider c.first_stop.result c.first_stop.ensures);
}

pub loop-done-smaller : goal.loop-done-smaller
loop-done-smaller c =
    let few = few_stops c.args.plant.now c.requires.rules c.args.base.now c.requires.tree c.loop-done.stops c.loop-done.done 0 c.loop-done.invariant.are in
    omega (arith, few)
