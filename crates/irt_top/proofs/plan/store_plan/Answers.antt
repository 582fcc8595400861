use Rattle.std.proofs.lemmas.Result.{err_from_is_err_and}
use Rattle.irt_top.proofs.PlanSteps.{follow_text, stop_stored}
use Rattle.irt_top.proofs.plan.store_plan.Goals as goal

pub returns-in_err-store_bundles-clause-step : goal.returns-in_err-store_bundles-clause-step
returns-in_err-store_bundles-clause-step g c =
    let p = err_from_is_err_and c.from_residual.result c.from_residual.ensures.1 in
    rw (p.1, p.2) (stop_stored c.args.plant.now c.args.bundles.now _ _ _ _ c.as_slice.ensures c.in_err-store_bundles.ensures.step)

pub returns-clause-step : goal.returns-clause-step
returns-clause-step g c =
    follow_text c.args.plant.now c.args.bundles.now _ _ _ c.printed.result c.in_ok-store_bundles.field-0 c.as_slice.ensures c.in_ok-store_bundles.ensures.step c.printed.ensures.step
