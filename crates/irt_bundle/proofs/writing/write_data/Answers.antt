use Rattle.std.proofs.Common.{arith, append_assoc}
use Rattle.irt_block.proofs.Blocks.{written_fits}
use Rattle.irt_bundle.specs.Bundles.{data_fields_bytes, data_of}
use Rattle.irt_bundle.proofs.Laws.{data_valid, data_fits_block}
use Rattle.irt_bundle.proofs.writing.write_data.Goals as goal

pub close_block-requires-clause-most : goal.close_block-requires-clause-most
close_block-requires-clause-most c = written_fits (data_fields_bytes (data_of c.args.value.now)) _ (data_fits_block (data_of c.args.value.now) (data_valid c.args.value.now c.requires)).1 (grind (arith, append_assoc))
