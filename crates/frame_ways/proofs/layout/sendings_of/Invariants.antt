use Rattle.frame_ways.specs.Layout.{AreSendingsTo}
use Rattle.frame_ways.proofs.layout.sendings_of.Given as goal

abbrev pub invariant-loop-at : goal.invariant-loop-at
invariant-loop-at l = AreSendingsTo l.stops l.at 0 l.sendings
