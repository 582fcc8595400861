use Rattle.std.proofs.Common.{◌∙◌}
use Rattle.plan_run.proofs.Headers.{send_fits, timeouts_fit, heard, budgets_fit}
use Rattle.plan_run.proofs.world.heard_world.Goals as goal

pub ptcp_world-requires-clause-some_send : goal.ptcp_world-requires-clause-some_send
ptcp_world-requires-clause-some_send c =
    (send_fits c.args.plant.now c.args.bundles.now c.first_of.result.now c.requires.plan c.requires.accepted c.first_of.ensures).0

pub ptcp_world-requires-clause-send : goal.ptcp_world-requires-clause-send
ptcp_world-requires-clause-send c =
    (send_fits c.args.plant.now c.args.bundles.now c.first_of.result.now c.requires.plan c.requires.accepted c.first_of.ensures).1

pub ptcp_world-requires-clause-timeouts : goal.ptcp_world-requires-clause-timeouts
ptcp_world-requires-clause-timeouts c =
    timeouts_fit c.args.plant.now c.args.bundles.now c.as_slice-timeouts.result.now c.requires.plan c.requires.accepted (c.as_slice-timeouts.ensures ∙ c.in_ok-timeouts.ensures)

pub returns-clause-world : goal.returns-clause-world
returns-clause-world c =
    heard c.args.plant.now c.args.bundles.now c.in_ok-tree.tree c.first_of.result.now c.as_slice-timeouts.result.now c.args.seed c.args.cycles c.ptcp_world.result c.ptcp_world.ensures.rows
    c.in_ok-tree.ensures c.first_of.ensures (c.as_slice-timeouts.ensures ∙ c.in_ok-timeouts.ensures)

pub returns-clause-fits : goal.returns-clause-fits
returns-clause-fits c =
    c.ptcp_world.ensures.fits
    (budgets_fit c.args.plant.now c.in_ok-tree.tree c.first_of.result.now.sync.send c.args.bundles.now c.as_slice-timeouts.result.now (c.as_slice-timeouts.ensures ∙ c.in_ok-timeouts.ensures)
    (c.accepted_plans_have_budgets.ensures c.args.plant.now c.args.bundles.now c.in_ok-tree.tree c.first_of.result.now c.in_ok-tree.ensures c.requires.ptcp c.requires.plan.count
    c.first_of.ensures c.requires.accepted))
