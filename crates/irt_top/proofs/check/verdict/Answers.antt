use Rattle.irt_top.proofs.CheckLemmas.{rejects}
use Rattle.irt_top.proofs.check.verdict.Goals as goal

pub returns-in-Some-clause-step : goal.returns-in-Some-clause-step
returns-in-Some-clause-step c = rejects _ _ _ _ _ c.in_ok-judge_plan.ensures.judged c.in-Some.is c.rejected.ensures.ending
