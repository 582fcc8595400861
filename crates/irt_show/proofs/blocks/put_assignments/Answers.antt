use Rattle.std.proofs.Common.{refl, arith}
use Rattle.irt_show.specs.Show.{period_line}
use Rattle.irt_show.proofs.Numbering.{one_more, all_done}
use Rattle.irt_show.proofs.blocks.put_assignments.Goals as goal

pub loop-assignment-preserved : goal.loop-assignment-preserved
loop-assignment-preserved c = (
  omega arith,
  one_more (period_line c.args.port) _ _ _ c.args.assignments.now c.loop-assignment.assignment-index c.loop-assignment.number _ _ (rw (c.deref.ensures.value, c.in_ok-line.ensures) at c.in_ok-put_bytes.ensures) refl (omega arith) c.loop-assignment.invariant.1,
)

pub returns : goal.returns
returns c = all_done (period_line c.args.port) _ _ c.args.assignments.now c.loop-assignment.assignment-index c.loop-assignment.number (omega arith) c.loop-assignment.invariant.1
