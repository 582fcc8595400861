use Rattle.std.proofs.Common.{sym, ◌∙◌, arith}
use Rattle.link_index.specs.Index.{peer_in}
use Rattle.fit_rules.specs.Order.{parents_of}
use Rattle.frame_ways.proofs.Bits.{bit_more, bit_skipped}
use Rattle.frame_ways.proofs.entries.tx_bits.Goals.{then-is_sent_over, else-is_sent_over}
use Rattle.frame_ways.proofs.entries.tx_bits.Goals as goal

pub loop-port-preserved : goal.loop-port-preserved
loop-port-preserved c =
    let peers = peer_in c.args.index.now in
    let parents = parents_of c.args.routes.now c.args.number in
    elim c.if-is_sent_over.branch [
      | then-is_sent_over w ↦ rw w.bits-is (bit_more peers parents c.args.device.0 c.args.kept c.loop-port.port c.loop-port.bits c.loop-port.invariant
          (omega arith) c.loop-port-test.true (sym c.is_sent_over.ensures ∙ w.if-is_sent_over.true))
      | else-is_sent_over w ↦ rw w.bits-is (bit_skipped peers parents c.args.device.0 c.args.kept c.loop-port.port c.loop-port.bits c.loop-port.invariant
          (omega arith) (sym c.is_sent_over.ensures ∙ w.if-is_sent_over.false))
    ]
