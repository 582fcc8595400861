use Rattle.planner.proofs.Kept.{AreKeptBelow}
use Rattle.planner.proofs.frame.anchor_offsets.Given as goal

abbrev pub invariant-loop-anchor : goal.invariant-loop-anchor
invariant-loop-anchor l = AreKeptBelow l.layout.anchors l.offsets l.anchor-index l.kept
