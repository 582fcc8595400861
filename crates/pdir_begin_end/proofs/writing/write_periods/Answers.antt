use Rattle.std.proofs.Common.{arith, append_assoc}
use Rattle.irt_block.proofs.Blocks.{written_fits}
use Rattle.pdir_begin_end.specs.Periods.{fields_bytes}
use Rattle.pdir_begin_end.proofs.Laws.{periods_fit_block}
use Rattle.pdir_begin_end.proofs.writing.write_periods.Goals as goal

pub close_block-requires-clause-most : goal.close_block-requires-clause-most
close_block-requires-clause-most c = written_fits (fields_bytes c.args.value.now) _ (periods_fit_block c.args.value.now c.requires).1 (grind (arith, append_assoc))
