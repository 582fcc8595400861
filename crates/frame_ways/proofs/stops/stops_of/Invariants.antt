use Rattle.std.proofs.Common.{◌≤◌, ◌-◌, length}
use Rattle.frame_ways.specs.Stops.{AreStopsTo}
use Rattle.frame_ways.proofs.stops.stops_of.Given as goal

abbrev pub invariant-loop-done : goal.invariant-loop-done
invariant-loop-done l = record {
  within : l.done ≤ length l.stops;
  are : AreStopsTo l.plant l.base l.stops l.done 0;
}

abbrev pub decreases-loop-done : goal.decreases-loop-done
decreases-loop-done l = 64 - l.done
