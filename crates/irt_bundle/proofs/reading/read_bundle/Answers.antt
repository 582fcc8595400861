use Rattle.std.proofs.Common.{arith}
use Rattle.irt_block.proofs.Blocks.{found_by, only_by}
use Rattle.irt_bundle.proofs.Laws.{bundle_law}
use Rattle.irt_bundle.proofs.reading.read_bundle.Goals as goal

pub returns-clause-found : goal.returns-clause-found
returns-clause-found c = found_by _ _ _ bundle_law c.args.bytes.now c.whole.result (λ i. omega (arith, c.type_inv.bytes i)) c.whole.ensures

pub returns-clause-only : goal.returns-clause-only
returns-clause-only c = only_by _ _ _ bundle_law c.args.bytes.now c.whole.result c.whole.ensures
