use Rattle.placement.proofs.Steps.{not_hanging, one_sending}
use Rattle.placement.proofs.search.behind_all.Goals.{then-sending-anchor, else-sending-anchor}
use Rattle.placement.proofs.search.behind_all.Goals as goal

pub loop-sending-preserved : goal.loop-sending-preserved
loop-sending-preserved c =
    let inside = rw c.as_slice-sending-items.ensures at c.loop-sending-test.true in
    elim c.if-sending-anchor.branch [
      | then-sending-anchor w ↦ rw w.at-is (one_sending c.args.limits c.args.rate c.args.layout.now c.args.gaps.now c.args.anchor.0
          c.loop-sending.sending-index c.args.offset c.loop-sending.at _ _ inside
          (rw c.as_slice-sending-items.ensures at w.if-sending-anchor.true) c.loop-sending.invariant
          (rw c.as_slice-sending-items.ensures at w.behind_slots-at.ensures))
      | else-sending-anchor w ↦ rw w.at-is (not_hanging c.args.limits c.args.rate c.args.layout.now c.args.gaps.now c.args.anchor.0
          c.loop-sending.sending-index c.args.offset c.loop-sending.at _ inside
          (rw c.as_slice-sending-items.ensures at w.if-sending-anchor.false) c.loop-sending.invariant)
    ]
