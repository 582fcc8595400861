use Rattle.plan_rules.specs.Plan.{setup_of}
use Rattle.irt_switch.proofs.Played.{switched, in_range}
use Rattle.irt_switch.proofs.Started.{started, all_started}
use Rattle.irt_switch.proofs.law.accepted_plans_are_switched.Goals as goal

pub returns-clause-sent_on : goal.returns-clause-sent_on
returns-clause-sent_on c = λ plant bundles plan accepted world ranges row from a in_cycle is step b r bridge held told takes.
    let safe = c.accepted_plans_are_safe.ensures plant bundles plan accepted world ranges in
    let t = safe.taken a row from in_cycle is step in
    let d = c.accepted_plans_can_be_played.ensures.entries plant bundles plan accepted a.device a.frame t.e t.stands in
    let m = c.accepted_plans_can_be_played.ensures.met plant bundles plan accepted row from a is in
    let range = in_range (setup_of plant bundles) world a.cycle row ranges in_cycle in
    switched plant bundles plan accepted row from a b r bridge held told takes t d (m.e, m.stands, m.comes.received)
    (λ port leaves. c.accepted_plans_can_be_played.ensures.sent_on plant bundles plan accepted row range from a t.e port is step t.stands leaves)

pub returns-clause-started : goal.returns-clause-started
returns-clause-started c = started

pub returns-clause-all_started : goal.returns-clause-all_started
returns-clause-all_started c = all_started
