use Rattle.frame_ways.specs.Layout.{AreAnchorsTo}
use Rattle.frame_ways.proofs.layout.anchors_of.Given as goal

abbrev pub invariant-loop-stop : goal.invariant-loop-stop
invariant-loop-stop l = AreAnchorsTo l.plant l.stops l.stop-index l.anchors
