use Rattle.placement.proofs.Offsets.{ArePlacedSome}
use Rattle.placement.proofs.phases.placed_offsets.Given as goal

abbrev pub invariant-loop-anchor : goal.invariant-loop-anchor
invariant-loop-anchor l = ArePlacedSome l.limits l.rate l.layout l.gaps l.anchor-index l.offsets
