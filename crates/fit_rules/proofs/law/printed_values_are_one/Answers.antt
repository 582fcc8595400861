use Rattle.fit_rules.proofs.OneText.{one_schedule, one_red_end}
use Rattle.fit_rules.proofs.law.printed_values_are_one.Goals as goal

pub returns-clause-schedule : goal.returns-clause-schedule
returns-clause-schedule c = one_schedule

pub returns-clause-red : goal.returns-clause-red
returns-clause-red c = one_red_end
