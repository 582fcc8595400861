use Rattle.std.proofs.Common.{arith}
use Rattle.irt_block.proofs.Blocks.{found_by, only_by}
use Rattle.pd_blocks.proofs.GlobalLaws.{global_law}
use Rattle.pd_blocks.proofs.global.read_global.Goals as goal

pub returns-clause-found : goal.returns-clause-found
returns-clause-found c = found_by _ _ _ global_law c.args.bytes.now c.whole.result (λ i. omega (arith, c.type_inv.bytes i)) c.whole.ensures

pub returns-clause-only : goal.returns-clause-only
returns-clause-only c = only_by _ _ _ global_law c.args.bytes.now c.whole.result c.whole.ensures
