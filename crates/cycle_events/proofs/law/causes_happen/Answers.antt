use Rattle.cycle_events.proofs.Known.{facts_of}
use Rattle.cycle_events.proofs.Steps.{causes_happen, causes_follow}
use Rattle.cycle_events.specs.Run.{play_of}
use Rattle.cycle_events.proofs.law.causes_happen.Goals as goal

pub returns-clause-happen : goal.returns-clause-happen
returns-clause-happen c = λ plant bundles plan accepted row range k.
    causes_happen (play_of plant bundles row k)
    (facts_of (record {
      entries = c.accepted_plans_can_be_played.ensures.entries;
      alike = c.accepted_plans_can_be_played.ensures.alike;
      starts = c.accepted_plans_can_be_played.ensures.starts;
      met = c.accepted_plans_can_be_played.ensures.met;
      sent_on = c.accepted_plans_can_be_played.ensures.sent_on;
      delivered = c.accepted_plans_can_be_played.ensures.delivered;
      parents = c.ways_are_one.ensures.parents;
    }) plant bundles plan accepted row range k)

pub returns-clause-follow : goal.returns-clause-follow
returns-clause-follow c = λ plant bundles plan accepted row range k.
    causes_follow (play_of plant bundles row k)
    (facts_of (record {
      entries = c.accepted_plans_can_be_played.ensures.entries;
      alike = c.accepted_plans_can_be_played.ensures.alike;
      starts = c.accepted_plans_can_be_played.ensures.starts;
      met = c.accepted_plans_can_be_played.ensures.met;
      sent_on = c.accepted_plans_can_be_played.ensures.sent_on;
      delivered = c.accepted_plans_can_be_played.ensures.delivered;
      parents = c.ways_are_one.ensures.parents;
    }) plant bundles plan accepted row range k)
