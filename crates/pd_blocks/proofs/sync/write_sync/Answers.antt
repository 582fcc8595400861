use Rattle.std.proofs.Common.{arith, append_assoc}
use Rattle.irt_block.proofs.Blocks.{written_fits}
use Rattle.pd_blocks.specs.Sync.{sync_fields_bytes}
use Rattle.pd_blocks.proofs.SyncLaws.{sync_fits_block, sync_whole}
use Rattle.pd_blocks.proofs.sync.write_sync.Goals as goal

pub close_block-requires-clause-most : goal.close_block-requires-clause-most
close_block-requires-clause-most c = written_fits (sync_fields_bytes c.args.value.now) _ (sync_fits_block c.args.value.now c.requires).1 (grind (arith, append_assoc))

pub returns-clause-whole : goal.returns-clause-whole
returns-clause-whole c = sync_whole c.args.value.now _ c.requires (grind (arith, append_assoc))
