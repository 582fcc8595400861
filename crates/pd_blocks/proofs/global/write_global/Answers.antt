use Rattle.std.proofs.Common.{arith, append_assoc}
use Rattle.irt_block.proofs.Blocks.{written_fits}
use Rattle.pd_blocks.specs.Global.{global_fields_bytes}
use Rattle.pd_blocks.proofs.GlobalLaws.{global_fits_block}
use Rattle.pd_blocks.proofs.global.write_global.Goals as goal

pub close_block-requires-clause-most : goal.close_block-requires-clause-most
close_block-requires-clause-most c = written_fits (global_fields_bytes c.args.value.now) _ (global_fits_block c.args.value.now c.requires).1 (grind (arith, append_assoc))
