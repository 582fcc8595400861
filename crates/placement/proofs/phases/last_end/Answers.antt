use Rattle.placement.proofs.Ends.{max_step}
use Rattle.placement.proofs.phases.last_end.Goals as goal

pub loop-sending-preserved : goal.loop-sending-preserved
loop-sending-preserved c =
    max_step c.args.limits c.args.layout.now c.args.offsets.now c.loop-sending.sending-index c.loop-sending.end c.end_of.result c.max-end.result
    c.as_slice-sending-items.result.now _ c.as_slice-sending-items.ensures c.loop-sending-test.true c.loop-sending.invariant
    (rw c.from.ensures at c.end_of.ensures) c.max-end.ensures
