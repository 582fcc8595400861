use Rattle.std.proofs.Common.{[], Ok, Err}
use Rattle.std.proofs.lemmas.Result.{err_from_is_err_and}
use Rattle.std.specs.Global.{Vec}
use Rattle.std.specs.Prelude.{ℕ}
use Rattle.irt_steps.proofs.StepLemmas.{follow_on, follow_stop}
use Rattle.irt_top.specs.DeviceFiles.{bundles_steps}
use Rattle.irt_top.specs.Run.{run_plan_steps}
use Rattle.irt_top.specs.World.{source_of}
use Rattle.irt_top.proofs.CheckLemmas.{from_none}
use Rattle.irt_top.proofs.RunLemmas.{follow_plan}
use Rattle.irt_top.proofs.run.run_plant.Goals as goal

pub returns-in_err-bundles-clause-step : goal.returns-in_err-bundles-clause-step
returns-in_err-bundles-clause-step g c =
    let p = err_from_is_err_and c.from_residual.result c.from_residual.ensures.1 in
    rw (p.1, p.2) (follow_stop (λ bs. bs) (λ (v : Vec ℕ). v.items) (bundles_steps c.args.plant.now.devices []) (run_plan_steps g.T.Runs.pace c.args.cycles (source_of c.args.world) c.args.plant.now) _ _ _
    (from_none c.args.plant.now.devices _ _ _ _ (Err c.in_err-bundles.field-0.0) c.as_slice.ensures c.new.ensures c.in_err-bundles.ensures.step))

pub returns-clause-step : goal.returns-clause-step
returns-clause-step g c =
    follow_on (λ bs. bs) (λ (v : Vec ℕ). v.items) (bundles_steps c.args.plant.now.devices []) (run_plan_steps g.T.Runs.pace c.args.cycles (source_of c.args.world) c.args.plant.now) _ _ _
    c.in_ok-bundles.bundles _
    (from_none c.args.plant.now.devices _ _ _ _ (Ok c.in_ok-bundles.bundles) c.as_slice.ensures c.new.ensures c.in_ok-bundles.ensures.step)
    (follow_plan g.T.Runs.pace c.args.plant.now _ _ c.args.cycles (source_of c.args.world) _ _ _ c.as_slice-2.ensures c.run_plan.ensures.step)
