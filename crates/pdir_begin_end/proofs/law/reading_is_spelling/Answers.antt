use Rattle.irt_block.proofs.Blocks.{whole_sure}
use Rattle.pdir_begin_end.proofs.Laws.{periods_codec, periods_law}
use Rattle.pdir_begin_end.proofs.law.reading_is_spelling.Goals as goal

pub returns-clause-one : goal.returns-clause-one
returns-clause-one c = periods_law

pub returns-clause-sure : goal.returns-clause-sure
returns-clause-sure c = whole_sure periods_codec
