use Rattle.cycle_events.proofs.Known.{facts_of}
use Rattle.cycle_events.proofs.Segment.{begin, goes_on, short}
use Rattle.cycle_events.specs.Run.{play_of}
use Rattle.cycle_events.proofs.law.runs_go_on.Goals as goal

pub returns-clause-begin : goal.returns-clause-begin
returns-clause-begin c = λ plant bundles plan accepted row range k. begin (play_of plant bundles row k)

pub returns-clause-goes_on : goal.returns-clause-goes_on
returns-clause-goes_on c = λ plant bundles plan accepted row range k.
    goes_on (play_of plant bundles row k)
    (facts_of (record {
      entries = c.accepted_plans_can_be_played.ensures.entries;
      alike = c.accepted_plans_can_be_played.ensures.alike;
      starts = c.accepted_plans_can_be_played.ensures.starts;
      met = c.accepted_plans_can_be_played.ensures.met;
      sent_on = c.accepted_plans_can_be_played.ensures.sent_on;
      delivered = c.accepted_plans_can_be_played.ensures.delivered;
      parents = c.ways_are_one.ensures.parents;
    }) plant bundles plan accepted row range k)

pub returns-clause-short : goal.returns-clause-short
returns-clause-short c = λ plant bundles plan accepted row range k.
    short (play_of plant bundles row k)
    (facts_of (record {
      entries = c.accepted_plans_can_be_played.ensures.entries;
      alike = c.accepted_plans_can_be_played.ensures.alike;
      starts = c.accepted_plans_can_be_played.ensures.starts;
      met = c.accepted_plans_can_be_played.ensures.met;
      sent_on = c.accepted_plans_can_be_played.ensures.sent_on;
      delivered = c.accepted_plans_can_be_played.ensures.delivered;
      parents = c.ways_are_one.ensures.parents;
    }) plant bundles plan accepted row range k)
