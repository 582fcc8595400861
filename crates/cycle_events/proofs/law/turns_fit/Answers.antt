use Rattle.cycle_events.proofs.Known.{facts_of}
use Rattle.cycle_events.proofs.Turns.{happen, fit, gives_row}
use Rattle.cycle_events.specs.Run.{play_of}
use Rattle.cycle_events.proofs.law.turns_fit.Goals as goal

pub returns-clause-happen : goal.returns-clause-happen
returns-clause-happen c = λ plant bundles plan accepted row range k.
    happen (play_of plant bundles row k) range (c.accepted_plans_can_be_played.ensures.near plant bundles plan accepted)

pub returns-clause-fit : goal.returns-clause-fit
returns-clause-fit c = λ plant bundles plan accepted row range k.
    fit (play_of plant bundles row k)
    (facts_of (record {
      entries = c.accepted_plans_can_be_played.ensures.entries;
      alike = c.accepted_plans_can_be_played.ensures.alike;
      starts = c.accepted_plans_can_be_played.ensures.starts;
      met = c.accepted_plans_can_be_played.ensures.met;
      sent_on = c.accepted_plans_can_be_played.ensures.sent_on;
      delivered = c.accepted_plans_can_be_played.ensures.delivered;
      parents = c.ways_are_one.ensures.parents;
    }) plant bundles plan accepted row range k)

pub returns-clause-rows : goal.returns-clause-rows
returns-clause-rows c = λ plant bundles plan accepted row range k. gives_row (play_of plant bundles row k)
