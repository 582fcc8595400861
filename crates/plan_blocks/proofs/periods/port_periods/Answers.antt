use Rattle.plan_blocks.proofs.Numbering.{one_more}
use Rattle.plan_blocks.proofs.periods.port_periods.Goals as goal

pub loop-k-preserved : goal.loop-k-preserved
loop-k-preserved c =
    rw c.in_ok-push.ensures.ok (one_more c.args.orange c.args.tx.now c.args.rx.now c.args.device.0 c.args.port.0 c.loop-k.k c.loop-k.assignments c.number_of.new.assignments
    c.loop-k.phases c.in_ok-number.number c.loop-k.invariant c.assignment_of-assignment.result
    (rw (c.at.ensures, c.at-in-loop-k.ensures) at c.assignment_of-assignment.ensures) c.in_ok-number.ensures)
