use Rattle.std.proofs.lemmas.Result.{err_from_is_err_and}
use Rattle.std.specs.Global.{Vec}
use Rattle.std.specs.Prelude.{ℕ}
use Rattle.irt_steps.proofs.StepLemmas.{follow_on, follow_stop}
use Rattle.irt_top.specs.Run.{size_steps, sized_steps}
use Rattle.irt_top.specs.World.{source_of}
use Rattle.irt_top.proofs.run.run_walked.Goals as goal

pub returns-in_err-fit_size-clause-step : goal.returns-in_err-fit_size-clause-step
returns-in_err-fit_size-clause-step g c =
    let p = err_from_is_err_and c.from_residual.result c.from_residual.ensures.1 in
    rw (p.1, p.2) (follow_stop (λ u. u) (λ (v : Vec ℕ). v.items) (size_steps c.args.accepted.now.plant c.args.accepted.now.bundles c.args.routes.now.walks c.args.cycles)
    (λ fits. sized_steps g.T.Runs.pace c.args.cycles (source_of c.args.world) c.args.accepted.now.plant c.args.accepted.now.bundles c.args.routes.now.walks) _ _ _ (c.in_err-fit_size.ensures.step _))

pub returns-clause-step : goal.returns-clause-step
returns-clause-step g c =
    follow_on (λ u. u) (λ (v : Vec ℕ). v.items) (size_steps c.args.accepted.now.plant c.args.accepted.now.bundles c.args.routes.now.walks c.args.cycles)
    (λ fits. sized_steps g.T.Runs.pace c.args.cycles (source_of c.args.world) c.args.accepted.now.plant c.args.accepted.now.bundles c.args.routes.now.walks) _ _ _ tt _ (c.in_ok-fit_size.ensures.step _)
    c.run_sized.ensures.step
