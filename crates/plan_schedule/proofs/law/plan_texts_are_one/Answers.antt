use Rattle.plan_schedule.proofs.OneText.{one_schedules, one_text}
use Rattle.plan_schedule.proofs.law.plan_texts_are_one.Goals as goal

pub returns-clause-schedules : goal.returns-clause-schedules
returns-clause-schedules c plant bundles = one_schedules c.printed_values_are_one.ensures.schedule plant bundles

pub returns-clause-texts : goal.returns-clause-texts
returns-clause-texts c plant bundles = one_text c.printed_values_are_one.ensures.schedule plant bundles (c.printed_values_are_one.ensures.red bundles)
