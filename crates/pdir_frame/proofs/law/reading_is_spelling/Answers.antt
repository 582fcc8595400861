use Rattle.irt_block.proofs.Blocks.{whole_sure}
use Rattle.pdir_frame.proofs.Laws.{frame_codec, frame_law}
use Rattle.pdir_frame.proofs.law.reading_is_spelling.Goals as goal

pub returns-clause-one : goal.returns-clause-one
returns-clause-one c = frame_law

pub returns-clause-sure : goal.returns-clause-sure
returns-clause-sure c = whole_sure frame_codec
