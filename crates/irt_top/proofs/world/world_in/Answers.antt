use Rattle.irt_steps.specs.declared.stop.Cause.TheVariants as causes
use Rattle.irt_top.specs.Lines.{world_line}
use Rattle.irt_top.proofs.PlanSteps.{line_ends}
use Rattle.irt_top.proofs.RunLemmas.{world_gives, world_stops}
use Rattle.irt_top.proofs.world.world_in.Goals as goal

pub returns-in-Ok-clause-step : goal.returns-in-Ok-clause-step
returns-in-Ok-clause-step c =
    world_gives c.plant.result.now c.args.accepted.now.plant c.bundles.result.now c.args.accepted.now.bundles c.args.cycles c.args.bytes.now c.in-Ok.world c.plant.ensures c.bundles.ensures
    c.facts.ensures.plan c.in-Ok.ensures.found

pub returns-in-Err-Refused-clause-step : goal.returns-in-Err-Refused-clause-step
returns-in-Err-Refused-clause-step c =
    world_stops c.plant.result.now c.args.accepted.now.plant c.bundles.result.now c.args.accepted.now.bundles c.args.cycles c.args.bytes.now c.in-Err-Refused.field-0 c.in-Err-Refused.line
    c.in-Err-Refused.place c.line_stop.result c.plant.ensures c.bundles.ensures c.facts.ensures.plan c.in-Err-Refused.ensures.refused c.in-Err-Refused.field-0-is
    (line_ends causes.World c.world_line.result c.line_stop.result (world_line c.in-Err-Refused.line c.in-Err-Refused.place) c.line_stop.ensures c.world_line.ensures)
