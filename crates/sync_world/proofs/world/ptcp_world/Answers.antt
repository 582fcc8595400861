use Rattle.std.proofs.Common.{List, ◌∙◌, subst, All}
use Rattle.irt_world.specs.Forwardings.{HasRange}
use Rattle.irt_world.specs.declared.forwardings.Forwarding.{Forwarding}
use Rattle.sync_world.proofs.Worlds.{rows_are, rows_fit, rows_in_step, rows_keep}
use Rattle.sync_world.proofs.world.ptcp_world.Goals as goal

pub returns-clause-rows : goal.returns-clause-rows
returns-clause-rows c =
    rows_are c.args.seed c.args.plant.now c.args.bundles.now c.args.tree.now c.args.send c.args.timeouts.now c.args.cycles
    c.as_slice-forwardings.result.now c.as_slice.result.now c.in_ok-rows.rows c.in_ok-rows.ensures
    (c.as_slice-forwardings.ensures.value ∙ c.in_ok-forwardings.ensures) (c.as_slice.ensures ∙ c.in_ok-errors.ensures.value)

pub returns-clause-budgets : goal.returns-clause-budgets
returns-clause-budgets c =
    rows_keep c.domains_have_bounds.ensures.clock c.args.seed c.args.plant.now c.args.bundles.now c.args.tree.now c.args.send c.args.timeouts.now
    c.args.cycles c.in_ok-rows.rows c.in_ok-errors.ensures.valid (returns-clause-rows c)

pub returns-clause-fits : goal.returns-clause-fits
returns-clause-fits c =
    rows_fit c.domains_have_bounds.ensures.clock c.args.seed c.args.plant.now c.args.bundles.now c.args.tree.now c.args.send c.args.timeouts.now
    c.args.cycles c.in_ok-rows.rows c.in_ok-errors.ensures.valid (returns-clause-rows c) c.requires.plan.rules.window
    (subst (λ (fs : List Forwarding). All HasRange fs) (c.as_slice-forwardings.ensures.value ∙ c.in_ok-forwardings.ensures) c.as_slice-forwardings.ensures.ranges)

pub returns-clause-in_step : goal.returns-clause-in_step
returns-clause-in_step c =
    rows_in_step c.domains_have_bounds.ensures.clock c.args.seed c.args.plant.now c.args.bundles.now c.args.tree.now c.args.send c.args.timeouts.now
    c.args.cycles c.in_ok-rows.rows c.in_ok-errors.ensures.valid (returns-clause-rows c)
