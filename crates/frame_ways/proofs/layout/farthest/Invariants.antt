use Rattle.std.proofs.Common.{take}
use Rattle.frame_ways.specs.Layout.{IsMostHops}
use Rattle.frame_ways.proofs.layout.farthest.Given as goal

abbrev pub invariant-loop-stop : goal.invariant-loop-stop
invariant-loop-stop l = IsMostHops (take l.stop-index l.stops) l.most
