use Rattle.plan_rules.specs.Expected.{IsSafe}
use Rattle.plan_rules.specs.Places.{IsAccepted}
use Rattle.planner.proofs.Planned.{only_answer, only_overrun, of_answer}
use Rattle.planner.proofs.planning.plan.Goals as goal

pub returns-clause-only : goal.returns-clause-only
returns-clause-only c = only_answer c.args.plant.now c.args.routes.now c.requires.routes c.first_fit_is_one.ensures.bundles c.first_fit_is_one.ensures.excluded
    c.first_fit_is_one.ensures.overruns c.first_fit.result c.first_fit.ensures.first_fit c.first_fit.ensures.fault

pub returns-clause-overrun : goal.returns-clause-overrun
returns-clause-overrun c = only_overrun c.args.plant.now c.args.routes.now c.requires.routes c.first_fit_is_one.ensures.bundles c.first_fit_is_one.ensures.excluded
    c.first_fit_is_one.ensures.overruns c.first_fit.result c.first_fit.ensures.first_fit c.first_fit.ensures.fault

pub returns-clause-accepted : goal.returns-clause-accepted
returns-clause-accepted c = of_answer c.args.plant.now c.args.routes.now (IsAccepted c.args.plant.now) c.first_fit.result
    (λ bundles is. c.first_fit_is_accepted.ensures.accepted c.args.plant.now c.args.routes.now bundles c.requires.routes is) c.first_fit.ensures.first_fit

pub returns-clause-safe : goal.returns-clause-safe
returns-clause-safe c = of_answer c.args.plant.now c.args.routes.now (IsSafe c.args.plant.now) c.first_fit.result
    (λ bundles is. c.first_fit_is_accepted.ensures.safe c.args.plant.now c.args.routes.now bundles c.requires.routes is) c.first_fit.ensures.first_fit
