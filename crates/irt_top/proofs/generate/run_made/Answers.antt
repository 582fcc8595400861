use Rattle.std.proofs.Common.{sym, subst}
use Rattle.std.proofs.lemmas.Result.{err_from_is_err_and}
use Rattle.plan_rules.specs.Places.{IsAccepted}
use Rattle.irt_top.proofs.GenSteps.{planning_of, stop_planning, follow_summary}
use Rattle.irt_top.proofs.generate.run_made.Goals as goal

pub returns-in_err-bundles-clause-step : goal.returns-in_err-bundles-clause-step
returns-in_err-bundles-clause-step g c = λ name.
    let p = err_from_is_err_and c.from_residual.result c.from_residual.ensures.1 in
    rw (p.1, p.2)
    (stop_planning (record { seed = c.args.seed; devices = c.args.devices; frames = c.args.frames; name = name }) c.args.plant.now _ c.requires.made c.in_err-bundles.ensures.step)

pub summary-requires-clause-accepted : goal.summary-requires-clause-accepted
summary-requires-clause-accepted g c κs within = subst (IsAccepted c.args.plant.now) (sym c.as_slice.ensures) c.in_ok-bundles.ensures.accepted

pub summary-requires-clause-planned : goal.summary-requires-clause-planned
summary-requires-clause-planned g c κs within = planning_of c.args.plant.now c.in_ok-bundles.bundles _ c.as_slice.ensures c.in_ok-bundles.ensures.step

pub returns-clause-step : goal.returns-clause-step
returns-clause-step g c = λ name.
    follow_summary (record { seed = c.args.seed; devices = c.args.devices; frames = c.args.frames; name = name }) c.args.plant.now c.in_ok-bundles.bundles _ c.in_ok-summary.field-0
    c.requires.made c.as_slice.ensures c.in_ok-bundles.ensures.step (c.in_ok-summary.ensures name)
