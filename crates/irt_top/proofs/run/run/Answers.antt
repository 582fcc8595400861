use Rattle.std.proofs.lemmas.Result.{err_from_is_err_and}
use Rattle.std.specs.Global.{Vec}
use Rattle.std.specs.Prelude.{ℕ}
use Rattle.irt_steps.proofs.StepLemmas.{follow_on, follow_stop}
use Rattle.irt_top.specs.PlantFile.{plant_steps}
use Rattle.irt_top.specs.Run.{run_plant_steps}
use Rattle.irt_top.specs.World.{source_of}
use Rattle.irt_top.proofs.CheckLemmas.{cause_after}
use Rattle.irt_top.proofs.run.run.Goals as goal

pub returns-in_err-plant-clause-step : goal.returns-in_err-plant-clause-step
returns-in_err-plant-clause-step g c =
    let p = err_from_is_err_and c.from_residual.result c.from_residual.ensures.1 in
    rw (p.1, p.2) (follow_stop (λ p. p) (λ (v : Vec ℕ). v.items) (plant_steps c.args.name.now) (run_plant_steps g.T.Runs.pace c.args.cycles (source_of c.args.world)) _ _ _ c.in_err-plant.ensures.step)

pub returns-clause-step : goal.returns-clause-step
returns-clause-step g c =
    follow_on (λ p. p) (λ (v : Vec ℕ). v.items) (plant_steps c.args.name.now) (run_plant_steps g.T.Runs.pace c.args.cycles (source_of c.args.world)) _ _ _ c.in_ok-plant.plant _
    c.in_ok-plant.ensures.step c.run_plant.ensures.step

pub returns-clause-cause : goal.returns-clause-cause
returns-clause-cause g c = cause_after _ _ _ c.run_plant.result c.in_ok-plant.ensures.later c.run_plant.ensures.cause
