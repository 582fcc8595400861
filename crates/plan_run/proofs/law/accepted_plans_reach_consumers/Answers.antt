use Rattle.plan_run.proofs.Reached.{consumers_are_reached}
use Rattle.plan_run.proofs.law.accepted_plans_reach_consumers.Goals as goal

pub returns : goal.returns
returns c = consumers_are_reached
