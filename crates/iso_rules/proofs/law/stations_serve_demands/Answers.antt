use Rattle.iso_rules.proofs.Serving.{serves_consumed, serves_provided, consumed_ascend, provided_ascend}
use Rattle.iso_rules.proofs.law.stations_serve_demands.Goals as goal

pub returns-clause-consumed : goal.returns-clause-consumed
returns-clause-consumed c = λ plant bundles plan accepted.
    serves_consumed plant bundles plan accepted (c.accepted_plans_can_be_played.ensures.entries plant bundles plan accepted)

pub returns-clause-provided : goal.returns-clause-provided
returns-clause-provided c = λ plant bundles plan accepted.
    serves_provided plant bundles plan accepted (c.accepted_plans_can_be_played.ensures.entries plant bundles plan accepted)

pub returns-clause-consumed_order : goal.returns-clause-consumed_order
returns-clause-consumed_order c = consumed_ascend

pub returns-clause-provided_order : goal.returns-clause-provided_order
returns-clause-provided_order c = provided_ascend
