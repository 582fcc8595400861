use Rattle.gap_table.proofs.Ordered.{rest_clear}
use Rattle.gap_table.proofs.table.blocker_from.Goals as goal

pub returns-then-candidate-guard-clause-clear : goal.returns-then-candidate-guard-clause-clear
returns-then-candidate-guard-clause-clear c =
    rest_clear c.args.guard c.args.candidate.now c.args.slots.now c.loop-at.at _ c.requires.ordered c.loop-at-test.true c.loop-at.invariant
    c.if-candidate-guard.true
