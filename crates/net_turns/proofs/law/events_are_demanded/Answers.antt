use Rattle.std.proofs.Common.{subst}
use Rattle.cycle_events.specs.Events.{HappensAs}
use Rattle.cycle_events.specs.Run.{play_of}
use Rattle.net_turns.proofs.HavePorts.{far_port}
use Rattle.net_turns.proofs.Demanded.{demanded}
use Rattle.net_turns.proofs.law.events_are_demanded.Goals as goal

pub returns-clause-demanded : goal.returns-clause-demanded
returns-clause-demanded c = λ plant bundles plan accepted row range k.
    demanded plant bundles accepted row k (c.accepted_plans_can_be_played.ensures.entries plant bundles plan accepted) (c.accepted_plans_can_be_played.ensures.alike plant bundles plan accepted)

pub returns-clause-starts : goal.returns-clause-starts
returns-clause-starts c = λ plant bundles plan accepted row range k e what is.
    let known = demanded plant bundles accepted row k (c.accepted_plans_can_be_played.ensures.entries plant bundles plan accepted) (c.accepted_plans_can_be_played.ensures.alike plant bundles plan accepted) e is in
    record {
      known = known;
      row = c.answers_are_events.ensures.starts plant bundles plan accepted row range k e known.demand what is known.frame.demanded;
    }

pub returns-clause-ports : goal.returns-clause-ports
returns-clause-ports c = λ plant bundles plan accepted row range k e what is.
    let (from, arrives) = subst (HappensAs (play_of plant bundles row k) e) what is in
    far_port plant bundles plan accepted arrives.sender arrives.port e.device.0 e.port.0 arrives.leads
