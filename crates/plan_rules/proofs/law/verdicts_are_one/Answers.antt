use Rattle.plan_rules.proofs.Verdicts.{one_reject, refuted, one_more, all_kept}
use Rattle.plan_rules.proofs.law.verdicts_are_one.Goals as goal

pub returns-clause-reject : goal.returns-clause-reject
returns-clause-reject c = one_reject

pub returns-clause-either : goal.returns-clause-either
returns-clause-either c = refuted

pub returns-clause-next : goal.returns-clause-next
returns-clause-next c = one_more

pub returns-clause-all : goal.returns-clause-all
returns-clause-all c = all_kept
