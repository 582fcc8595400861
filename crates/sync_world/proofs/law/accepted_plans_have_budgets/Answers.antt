use Rattle.sync_world.proofs.Accepted.{accepted_budgets}
use Rattle.sync_world.proofs.law.accepted_plans_have_budgets.Goals as goal

pub returns : goal.returns
returns c = accepted_budgets
