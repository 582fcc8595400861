use Rattle.irt_top.proofs.GenSteps.{never_unreachable, never_cut}
use Rattle.irt_top.proofs.generate.planned_routes.Goals as goal

pub unreachable-requires : goal.unreachable-requires
unreachable-requires c =
    never_unreachable c.plant.result.now c.args.accepted.now.plant c.args.accepted.now.bundles c.in-Err-Unreachable.field-0 _ _ c.requires c.plant.ensures
    c.in-Err-Unreachable.field-0-is c.in-Err-Unreachable.ensures.fault

pub unreachable-requires-in-Err-NoPath : goal.unreachable-requires-in-Err-NoPath
unreachable-requires-in-Err-NoPath c =
    never_cut c.plant.result.now c.args.accepted.now.plant c.args.accepted.now.bundles c.in-Err-NoPath.field-0 _ c.requires c.plant.ensures c.in-Err-NoPath.field-0-is
    c.in-Err-NoPath.ensures.fault
