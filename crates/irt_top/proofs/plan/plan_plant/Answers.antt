use Rattle.std.proofs.Common.{sym, subst}
use Rattle.std.proofs.lemmas.Result.{err_from_is_err_and}
use Rattle.std.specs.Global.{Vec}
use Rattle.std.specs.Prelude.{ℕ}
use Rattle.irt_steps.proofs.StepLemmas.{follow_on, follow_stop}
use Rattle.plan_rules.specs.Places.{IsAccepted}
use Rattle.irt_top.specs.Plan.{planning_steps, stored_steps}
use Rattle.irt_top.proofs.PlanSteps.{follow_stored}
use Rattle.irt_top.proofs.plan.plan_plant.Goals as goal

pub store_plan-requires-clause-accepted : goal.store_plan-requires-clause-accepted
store_plan-requires-clause-accepted g c = subst (IsAccepted c.args.plant.now) (sym c.as_slice.ensures) c.in_ok-bundles.ensures.accepted

pub returns-in_err-bundles-clause-step : goal.returns-in_err-bundles-clause-step
returns-in_err-bundles-clause-step g c =
    let p = err_from_is_err_and c.from_residual.result c.from_residual.ensures.1 in
    rw (p.1, p.2) (follow_stop (λ bs. bs) (λ (v : Vec ℕ). v.items) (planning_steps c.args.plant.now) (stored_steps c.args.plant.now) _ _ _ (c.in_err-bundles.ensures.step _))

pub returns-clause-step : goal.returns-clause-step
returns-clause-step g c =
    follow_on (λ bs. bs) (λ (v : Vec ℕ). v.items) (planning_steps c.args.plant.now) (stored_steps c.args.plant.now) _ _ _ c.in_ok-bundles.bundles _
    (c.in_ok-bundles.ensures.step _) (follow_stored c.args.plant.now _ _ _ _ _ c.as_slice.ensures c.store_plan.ensures.step)
