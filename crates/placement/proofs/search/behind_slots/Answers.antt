use Rattle.std.proofs.Common.{rules}
use Rattle.placement.proofs.Steps.{not_due, one_table}
use Rattle.placement.proofs.search.behind_slots.Goals.{then-due, else-due}
use Rattle.placement.proofs.search.behind_slots.Goals as goal

pub loop-k-preserved : goal.loop-k-preserved
loop-k-preserved c = elim c.if-due.branch [
  | then-due w ↦ rw w.at-is (one_table c.args.limits c.args.rate c.args.wire c.args.gaps.now c.args.sending c.loop-k.k c.args.offset c.loop-k.at _
      c.loop-k-test.true (search rules) c.loop-k.invariant
      (rw w.table.ensures at w.behind_table-at.ensures))
  | else-due w ↦ rw w.at-is (not_due c.args.limits c.args.rate c.args.wire c.args.gaps.now c.args.sending c.loop-k.k c.args.offset c.loop-k.at (search rules) c.loop-k.invariant)
]
