use Rattle.std.proofs.Common.{◌≡◌, length, arith}
use Rattle.planner.proofs.Rising.{one_sent, all_sent}
use Rattle.planner.proofs.ends.raise_sendings.Goals as goal

pub loop-sending-preserved : goal.loop-sending-preserved
loop-sending-preserved c =
    one_sent c.args.limits c.args.rate c.args.layout.now c.args.offsets.now c.loop-sending.sending-index _ c.args.ends.now c.loop-sending.ends _
    (rw c.as_slice-sending-items.ensures at c.loop-sending-test.true) c.loop-sending.invariant
    (rw (c.end_of-end.ensures, c.from.ensures, c.as_slice-sending-items.ensures) at c.raise.ensures)

pub returns : goal.returns
returns c =
    let all : c.loop-sending.sending-index ≡ length c.args.layout.now.sendings =
    let long = rw c.as_slice-sending-items.ensures at c.loop-sending-test.false in
    let short = rw c.as_slice-sending-items.ensures at c.loop-sending.auto.sending-index-end in
    omega (arith, long, short) in
    all_sent c.args.limits c.args.rate c.args.layout.now c.args.offsets.now c.loop-sending.sending-index c.args.ends.now c.loop-sending.ends all c.loop-sending.invariant
