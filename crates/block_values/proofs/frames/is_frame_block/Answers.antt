use Rattle.block_values.proofs.Judging.{frame_block}
use Rattle.block_values.proofs.frames.is_frame_block.Goals as goal
use Rattle.block_values.proofs.frames.is_frame_block.Goals.{then-has_room, else-has_room}

pub returns-then-are_entries : goal.returns-then-are_entries
returns-then-are_entries c = elim c.if-has_room.branch [
  | then-has_room w ↦
      frame_block c.args.b.now c.as_slice-entries.result.now c.ascends.result c.as_slice-entries.ensures (c.has_room.ensures.0 w.if-has_room.true)
      (w.are_entries.ensures.0 (cc)) c.ascends.ensures
  | else-has_room w ↦ absurd (cc)
]
