use Rattle.frame_ways.specs.Layout.{AreSendingsTo}
use Rattle.frame_ways.proofs.layout.add_sendings.Given as goal

abbrev pub invariant-loop-port : goal.invariant-loop-port
invariant-loop-port l = AreSendingsTo l.stops l.at l.port l.sendings
