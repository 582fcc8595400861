use Rattle.plan_rules.specs.Places.{KeepsBelow}
use Rattle.plan_check.proofs.order.later_reject.Given as goal

abbrev pub invariant-loop-rule : goal.invariant-loop-rule
invariant-loop-rule l = KeepsBelow l.net.plant.now l.net.bundles.now l.rule
