use Rattle.std.proofs.lemmas.Result.{err_from_is_err_and}
use Rattle.std.specs.Global.{Vec}
use Rattle.std.specs.Prelude.{ℕ}
use Rattle.irt_route.specs.Routes.{RouteTables}
use Rattle.irt_steps.proofs.StepLemmas.{follow_on, follow_stop}
use Rattle.irt_top.specs.Run.{walks_steps, walked_steps}
use Rattle.irt_top.specs.World.{source_of}
use Rattle.irt_top.proofs.run.run_accepted.Goals as goal

pub returns-in_err-routes-clause-step : goal.returns-in_err-routes-clause-step
returns-in_err-routes-clause-step g c =
    let p = err_from_is_err_and c.from_residual.result c.from_residual.ensures.1 in
    rw (p.1, p.2) (follow_stop (λ (r : RouteTables). r.walks) (λ (v : Vec ℕ). v.items) (walks_steps c.args.accepted.now.plant)
    (walked_steps g.T.Runs.pace c.args.cycles (source_of c.args.world) c.args.accepted.now.plant c.args.accepted.now.bundles) _ _ _ (c.in_err-routes.ensures.step _))

pub returns-clause-step : goal.returns-clause-step
returns-clause-step g c =
    follow_on (λ (r : RouteTables). r.walks) (λ (v : Vec ℕ). v.items) (walks_steps c.args.accepted.now.plant)
    (walked_steps g.T.Runs.pace c.args.cycles (source_of c.args.world) c.args.accepted.now.plant c.args.accepted.now.bundles) _ _ _ c.in_ok-routes.routes _ (c.in_ok-routes.ensures.step _)
    c.run_walked.ensures.step
