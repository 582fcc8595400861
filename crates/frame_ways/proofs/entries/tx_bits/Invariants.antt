use Rattle.link_index.specs.Index.{peer_in}
use Rattle.fit_rules.specs.Order.{parents_of}
use Rattle.frame_ways.proofs.Bits.{AreBitsBelow}
use Rattle.frame_ways.proofs.entries.tx_bits.Given as goal

abbrev pub invariant-loop-port : goal.invariant-loop-port
invariant-loop-port l = AreBitsBelow (peer_in l.index) (parents_of l.routes l.number) l.device.0 l.kept l.port l.bits
