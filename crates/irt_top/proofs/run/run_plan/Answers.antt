use Rattle.std.proofs.lemmas.Result.{err_from_is_err_and}
use Rattle.std.specs.Global.{Vec}
use Rattle.std.specs.Prelude.{ℕ}
use Rattle.irt_steps.proofs.StepLemmas.{follow_on, follow_stop}
use Rattle.plan_check.specs.Settled.{Settled}
use Rattle.irt_top.specs.Run.{accepted_steps, ran_steps}
use Rattle.irt_top.specs.World.{source_of}
use Rattle.irt_top.proofs.RunLemmas.{follow_ran}
use Rattle.irt_top.proofs.run.run_plan.Goals as goal

pub returns-in_err-accepted-clause-step : goal.returns-in_err-accepted-clause-step
returns-in_err-accepted-clause-step g c =
    let p = err_from_is_err_and c.from_residual.result c.from_residual.ensures.1 in
    rw (p.1, p.2) (follow_stop (λ (a : Settled). tt) (λ (v : Vec ℕ). v.items) (accepted_steps c.args.plant.now c.args.bundles.now)
    (λ accepted. ran_steps g.T.Runs.pace c.args.cycles (source_of c.args.world) c.args.plant.now c.args.bundles.now) _ _ _ (c.in_err-accepted.ensures.step _))

pub returns-clause-step : goal.returns-clause-step
returns-clause-step g c =
    follow_on (λ (a : Settled). tt) (λ (v : Vec ℕ). v.items) (accepted_steps c.args.plant.now c.args.bundles.now)
    (λ accepted. ran_steps g.T.Runs.pace c.args.cycles (source_of c.args.world) c.args.plant.now c.args.bundles.now) _ _ _ c.in_ok-accepted.accepted _ (c.in_ok-accepted.ensures.step _)
    (follow_ran g.T.Runs.pace c.in_ok-accepted.accepted c.args.plant.now c.args.bundles.now c.args.cycles (source_of c.args.world) _ _ _ c.in_ok-accepted.ensures.plan c.run_accepted.ensures.step)
