use Rattle.std.proofs.Common.{◌∙◌, ap}
use Rattle.std.proofs.lemmas.Result.{IfOk-from_err}
use Rattle.iso_plant.proofs.Beginning.{accepted_as, plan_as}
use Rattle.iso_plant.proofs.Ready.{are_ready}
use Rattle.iso_plant.proofs.begin.new_machines.Goals as goal

pub new-stations-requires-clause-plan : goal.new-stations-requires-clause-plan
new-stations-requires-clause-plan c = plan_as _ _ _ _ c.plant.ensures c.bundles.ensures c.facts.ensures.plan

pub new-stations-requires-clause-accepted : goal.new-stations-requires-clause-accepted
new-stations-requires-clause-accepted c = accepted_as _ _ _ _ c.plant.ensures c.bundles.ensures c.facts.ensures.accepted

pub new_journal-journal-requires : goal.new_journal-journal-requires
new_journal-journal-requires c = c.in_ok-net.ensures.empty

pub returns-in_err-net : goal.returns-in_err-net
returns-in_err-net c = IfOk-from_err _ _ c.from_residual.ensures.0

pub returns-in_err-written : goal.returns-in_err-written
returns-in_err-written c = IfOk-from_err _ _ c.from_residual-in_err-written.ensures.0

pub returns-in_err-net-2 : goal.returns-in_err-net-2
returns-in_err-net-2 c = IfOk-from_err _ _ c.from_residual-in_err-net-2.ensures.0

pub returns : goal.returns
returns c =
    let both = c.in_ok-net-2.ensures.made in
    are_ready c.args.accepted.now.plant c.plant.result.now c.args.accepted.now.bundles c.bundles.result.now c.args.routes.now.walks c.args.cycles
    c.in_ok-net.net c.in_ok-net-2.net c.new_journal-journal.result c.in_ok-written.written.1 c.in_ok-net-2.journal
    c.new-stations.result c.in_ok-net-2.stations c.plant.ensures c.bundles.ensures
    c.in_ok-net.ensures.plant c.in_ok-net.ensures.bundles c.in_ok-net.ensures.walks c.in_ok-net.ensures.empty
    c.in_ok-written.ensures.next c.new_journal-journal.ensures.rows c.new_journal-journal.ensures.room
    c.in_ok-net-2.ensures.next c.new-stations.ensures.plant c.new-stations.ensures.begun c.new-stations.ensures.cycle
    (ap (λ p. p.0) both ∙ c.in_ok-written.ensures.made) (ap (λ p. p.1) both)
