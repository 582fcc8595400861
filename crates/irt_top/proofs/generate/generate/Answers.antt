use Rattle.std.proofs.lemmas.Result.{err_from_is_err_and}
use Rattle.irt_top.proofs.GenSteps.{follow_made, stop_store}
use Rattle.irt_top.proofs.generate.generate.Goals as goal

pub returns-in_err-store_plant-clause-step : goal.returns-in_err-store_plant-clause-step
returns-in_err-store_plant-clause-step g c =
    let p = err_from_is_err_and c.from_residual-in_err-store_plant.result c.from_residual-in_err-store_plant.ensures.1 in
    rw (p.1, p.2)
    (stop_store (record { seed = c.args.seed; devices = c.args.devices; frames = c.args.frames; name = c.args.name.now }) c.in_ok-plant.plant _ _ _ c.in_ok-plant.ensures.plant
    c.in_err-store_plant.ensures.step)

pub returns-clause-step : goal.returns-clause-step
returns-clause-step g c =
    follow_made (record { seed = c.args.seed; devices = c.args.devices; frames = c.args.frames; name = c.args.name.now }) c.in_ok-plant.plant _ _ c.in_ok-store_plant.field-0 _
    c.in_ok-plant.ensures.plant c.in_ok-store_plant.ensures.step (c.run_made.ensures.step c.args.name.now)
