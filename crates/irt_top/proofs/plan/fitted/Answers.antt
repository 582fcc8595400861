use Rattle.std.proofs.Common.{refl, subst}
use Rattle.irt_steps.specs.declared.stop.Cause.TheVariants as causes
use Rattle.planner.specs.Answers.{IsPlanFault}
use Rattle.irt_top.specs.Lines.{overrun_line}
use Rattle.irt_top.specs.Plan.{overruns}
use Rattle.irt_top.proofs.PlanSteps.{line_ends, planning_stops, planning_gives}
use Rattle.irt_top.proofs.plan.fitted.Goals as goal

pub returns-in-Ok-clause-step : goal.returns-in-Ok-clause-step
returns-in-Ok-clause-step c = planning_gives c.args.plant.now c.args.routes.now c.in-Ok.bundles c.requires c.in-Ok.ensures.first_fit

pub returns-in-Err-Overrun-clause-step : goal.returns-in-Err-Overrun-clause-step
returns-in-Err-Overrun-clause-step c =
    let fault = subst (IsPlanFault c.args.plant.now c.args.routes.now) c.in-Err-Overrun.field-0-is c.in-Err-Overrun.ensures.fault in
    planning_stops c.args.plant.now (overruns c.in-Err-Overrun.frame) 9 (overrun_line c.in-Err-Overrun.frame.0) c.line_stop.result
    (record { routes = c.args.routes.now; are_routes = c.requires; overrun = fault }) refl
    (line_ends causes.Overrun _ _ _ c.line_stop.ensures c.overrun_line.ensures)
