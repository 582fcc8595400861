use Rattle.irt_block.proofs.Blocks.{whole_sure}
use Rattle.irt_bundle.proofs.Laws.{bundle_codec, bundle_law}
use Rattle.irt_bundle.proofs.law.reading_is_spelling.Goals as goal

pub returns-clause-one : goal.returns-clause-one
returns-clause-one c = bundle_law

pub returns-clause-sure : goal.returns-clause-sure
returns-clause-sure c = whole_sure bundle_codec
