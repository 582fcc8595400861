use Rattle.irt_block.proofs.Blocks.{whole_sure}
use Rattle.pd_blocks.proofs.SyncLaws.{sync_codec, sync_law}
use Rattle.pd_blocks.proofs.GlobalLaws.{global_codec, global_law}
use Rattle.pd_blocks.proofs.law.reading_is_spelling.Goals as goal

pub returns-clause-sync : goal.returns-clause-sync
returns-clause-sync c = sync_law

pub returns-clause-global : goal.returns-clause-global
returns-clause-global c = global_law

pub returns-clause-sure_sync : goal.returns-clause-sure_sync
returns-clause-sure_sync c = whole_sure sync_codec

pub returns-clause-sure_global : goal.returns-clause-sure_global
returns-clause-sure_global c = whole_sure global_codec
