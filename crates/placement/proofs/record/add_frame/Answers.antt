use Rattle.std.proofs.Common.{◌≡◌, ℕ, length, subst, arith}
use Rattle.placement.specs.Tables.{Adds}
use Rattle.placement.proofs.Records.{IsSlotBefore, clear_slots, one_more, all_slots}
use Rattle.placement.proofs.record.add_frame.Goals as goal

pub add_sending-requires-clause-clear : goal.add_sending-requires-clause-clear
add_sending-requires-clause-clear c =
    rw (c.slot_of-slot.ensures, c.from.ensures, c.as_slice-sending-items.ensures)
    (clear_slots c.args.rate c.args.layout.now c.args.offsets.now c.args.gaps.now c.requires.layout c.loop-sending.sending-index _ c.loop-sending.gaps
    (rw c.as_slice-sending-items.ensures at c.loop-sending-test.true) c.requires.clear c.loop-sending.invariant)

pub loop-sending-preserved : goal.loop-sending-preserved
loop-sending-preserved c =
    one_more c.args.rate c.args.layout.now c.args.offsets.now c.args.gaps.now c.requires.layout c.loop-sending.sending-index _ c.loop-sending.gaps _
    (rw c.as_slice-sending-items.ensures at c.loop-sending-test.true) c.loop-sending.invariant
    (rw (c.slot_of-slot.ensures, c.from.ensures, c.as_slice-sending-items.ensures) at c.in_ok-add_sending.ensures)

pub returns : goal.returns
returns c =
    let all : c.loop-sending.sending-index ≡ length c.args.layout.now.sendings =
    let long = rw c.as_slice-sending-items.ensures at c.loop-sending-test.false in
    let short = rw c.as_slice-sending-items.ensures at c.loop-sending.auto.sending-index-end in
    omega (arith, long, short) in
    all_slots c.args.rate c.args.layout.now c.args.offsets.now c.args.gaps.now c.requires.layout c.loop-sending.gaps
    (subst (λ (n : ℕ). Adds (IsSlotBefore c.args.rate c.args.layout.now c.args.offsets.now n) c.args.gaps.now c.loop-sending.gaps) all c.loop-sending.invariant)
