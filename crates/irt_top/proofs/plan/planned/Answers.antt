use Rattle.std.proofs.Common.{refl, subst}
use Rattle.irt_route.specs.Routes.{IsRouteFault}
use Rattle.irt_route.specs.declared.fault.RouteFault.TheVariants as faults
use Rattle.irt_steps.specs.declared.stop.Cause.TheVariants as causes
use Rattle.irt_top.specs.Lines.{unreachable_line, no_path_line}
use Rattle.irt_top.specs.Plan.{no_walk}
use Rattle.irt_top.specs.PlantFile.{name_of}
use Rattle.irt_top.proofs.PlanSteps.{line_ends, planning_stops}
use Rattle.irt_top.proofs.plan.planned.Goals as goal

pub returns-in-Err-Unreachable-clause-step : goal.returns-in-Err-Unreachable-clause-step
returns-in-Err-Unreachable-clause-step c =
    let frame = c.in-Err-Unreachable.frame in
    let device = c.in-Err-Unreachable.device in
    planning_stops c.args.plant.now (no_walk (faults.Unreachable frame device)) 6 (unreachable_line frame.0 (name_of c.args.plant.now device.0)) c.unreachable.result
    (subst (IsRouteFault c.args.plant.now) c.in-Err-Unreachable.field-0-is c.in-Err-Unreachable.ensures.fault) refl c.unreachable.ensures.ending

pub returns-in-Err-NoPath-clause-step : goal.returns-in-Err-NoPath-clause-step
returns-in-Err-NoPath-clause-step c =
    let traffic = c.in-Err-NoPath.traffic in
    planning_stops c.args.plant.now (no_walk (faults.NoPath traffic)) 6 (no_path_line traffic) c.line_stop.result
    (subst (IsRouteFault c.args.plant.now) c.in-Err-NoPath.field-0-is c.in-Err-NoPath.ensures.fault) refl
    (line_ends causes.NoWalk _ _ _ c.line_stop.ensures c.no_path_line.ensures)
