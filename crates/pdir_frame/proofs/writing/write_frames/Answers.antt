use Rattle.std.proofs.Common.{arith, append_assoc}
use Rattle.irt_block.proofs.Blocks.{written_fits}
use Rattle.pdir_frame.specs.Frames.{fields_bytes}
use Rattle.pdir_frame.proofs.Laws.{frame_fits_block}
use Rattle.pdir_frame.proofs.writing.write_frames.Goals as goal

pub close_block-requires-clause-most : goal.close_block-requires-clause-most
close_block-requires-clause-most c = written_fits (fields_bytes c.args.value.now) _ (frame_fits_block c.args.value.now c.requires).1 (grind (arith, append_assoc))
