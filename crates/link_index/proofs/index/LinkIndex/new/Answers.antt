use Rattle.std.proofs.Common.{arith}
use Rattle.link_index.proofs.Rows.{index_from}
use Rattle.link_index.proofs.index.LinkIndex.new.Goals as goal

pub returns : goal.returns
returns c = index_from c.args.plant.now c.loop-number.number c.loop-number.rows c.requires (omega (arith, c.loop-number-test.false)) c.loop-number.invariant.entered
