use Rattle.plan_rules.proofs.Exactly.{starts_once}
use Rattle.plan_rules.proofs.Playing.{entries_are_demanded, entries_are_alike, arrives_once, meets_arrivals, sends_on, delivers_arrivals, all_near}
use Rattle.plan_rules.proofs.law.accepted_plans_can_be_played.Goals as goal

pub returns-clause-entries : goal.returns-clause-entries
returns-clause-entries c = entries_are_demanded

pub returns-clause-alike : goal.returns-clause-alike
returns-clause-alike c = entries_are_alike

pub returns-clause-starts : goal.returns-clause-starts
returns-clause-starts c = starts_once

pub returns-clause-arrives : goal.returns-clause-arrives
returns-clause-arrives c = arrives_once

pub returns-clause-met : goal.returns-clause-met
returns-clause-met c = meets_arrivals

pub returns-clause-sent_on : goal.returns-clause-sent_on
returns-clause-sent_on c = sends_on

pub returns-clause-delivered : goal.returns-clause-delivered
returns-clause-delivered c = delivers_arrivals

pub returns-clause-near : goal.returns-clause-near
returns-clause-near c = all_near
