use Rattle.cycle_events.proofs.Known.{facts_of}
use Rattle.cycle_events.proofs.Segment.{differ, segment}
use Rattle.cycle_events.specs.Run.{play_of}
use Rattle.cycle_events.proofs.law.runs_give_segments.Goals as goal

pub returns-clause-differ : goal.returns-clause-differ
returns-clause-differ c = λ plant bundles plan accepted row range k world within first handled begun run.
    differ (play_of plant bundles row k)
    (facts_of (record {
      entries = c.accepted_plans_can_be_played.ensures.entries;
      alike = c.accepted_plans_can_be_played.ensures.alike;
      starts = c.accepted_plans_can_be_played.ensures.starts;
      met = c.accepted_plans_can_be_played.ensures.met;
      sent_on = c.accepted_plans_can_be_played.ensures.sent_on;
      delivered = c.accepted_plans_can_be_played.ensures.delivered;
      parents = c.ways_are_one.ensures.parents;
    }) plant bundles plan accepted row range k)
    world within.in_cycle (c.accepted_plans_are_safe.ensures plant bundles plan accepted world within.ranges).apart first handled begun run

pub returns-clause-segment : goal.returns-clause-segment
returns-clause-segment c = λ plant bundles plan accepted row range k world within first handled begun run.
    segment (play_of plant bundles row k)
    (facts_of (record {
      entries = c.accepted_plans_can_be_played.ensures.entries;
      alike = c.accepted_plans_can_be_played.ensures.alike;
      starts = c.accepted_plans_can_be_played.ensures.starts;
      met = c.accepted_plans_can_be_played.ensures.met;
      sent_on = c.accepted_plans_can_be_played.ensures.sent_on;
      delivered = c.accepted_plans_can_be_played.ensures.delivered;
      parents = c.ways_are_one.ensures.parents;
    }) plant bundles plan accepted row range k)
    world within.in_cycle (c.accepted_plans_are_safe.ensures plant bundles plan accepted world within.ranges).apart first handled begun run
