use Rattle.plan_run.proofs.OneText.{one_record, one_text}
use Rattle.plan_run.proofs.law.run_texts_are_one.Goals as goal

pub returns-clause-records : goal.returns-clause-records
returns-clause-records c = one_record c.lockstep_runs_are_one.ensures.records

pub returns-clause-texts : goal.returns-clause-texts
returns-clause-texts c = one_text c.lockstep_runs_are_one.ensures.records
