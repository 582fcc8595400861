use Rattle.std.proofs.Common.{◌<◌, length}
use Rattle.frame_ways.specs.Stops.{AreStopsTo}
use Rattle.frame_ways.proofs.stops.add_next.Given as goal

abbrev pub invariant-loop-port : goal.invariant-loop-port
invariant-loop-port l = record {
  there : l.at < length l.stops;
  are : AreStopsTo l.plant l.base l.stops l.at l.port;
}
