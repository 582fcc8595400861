use Rattle.irt_steps.specs.declared.stop.Cause.TheVariants as causes
use Rattle.irt_top.specs.Lines.{no_path_line}
use Rattle.irt_top.proofs.PlanSteps.{line_ends}
use Rattle.irt_top.proofs.RunLemmas.{walks_give, walks_stop, never_unreached}
use Rattle.irt_top.proofs.run.walked.Goals as goal

pub unreachable-requires : goal.unreachable-requires
unreachable-requires c =
    never_unreached c.plant.result.now c.args.accepted.now.plant c.in-Err-Unreachable.field-0 c.in-Err-Unreachable.field-0-0 c.in-Err-Unreachable.field-0-1 c.plant.ensures
    c.in-Err-Unreachable.ensures.fault c.in-Err-Unreachable.field-0-is
    (c.accepted_plans_reach_consumers.ensures c.args.accepted.now.plant c.args.accepted.now.bundles c.facts.ensures.plan c.facts.ensures.accepted)

pub returns-in-Ok-clause-step : goal.returns-in-Ok-clause-step
returns-in-Ok-clause-step c = walks_give c.plant.result.now c.args.accepted.now.plant c.in-Ok.routes c.plant.ensures c.in-Ok.ensures.routes

pub returns-in-Err-NoPath-clause-step : goal.returns-in-Err-NoPath-clause-step
returns-in-Err-NoPath-clause-step c =
    walks_stop c.plant.result.now c.args.accepted.now.plant c.in-Err-NoPath.field-0 c.in-Err-NoPath.traffic c.line_stop.result c.plant.ensures c.in-Err-NoPath.ensures.fault
    c.in-Err-NoPath.field-0-is (line_ends causes.NoWalk c.no_path_line.result c.line_stop.result (no_path_line c.in-Err-NoPath.traffic) c.line_stop.ensures c.no_path_line.ensures)
