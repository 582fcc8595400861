use Rattle.plan_check.specs.Verdicts.{reject_of}
use Rattle.plan_check.proofs.Judging.{only_of, exact_of, safe_of}
use Rattle.plan_check.proofs.check.check.Goals as goal

pub returns-clause-safe : goal.returns-clause-safe
returns-clause-safe c =
    let plant = c.args.plant.now in
    let bundles = c.args.bundles.now in
    safe_of plant bundles (reject_of) c.kept_verdict.result c.kept_verdict.ensures.judged (c.accepted_plans_are_safe.ensures plant bundles c.requires)

pub returns-clause-only : goal.returns-clause-only
returns-clause-only c =
    let plant = c.args.plant.now in
    let bundles = c.args.bundles.now in
    only_of plant bundles (c.verdicts_are_one.ensures.reject plant bundles) (c.verdicts_are_one.ensures.either plant bundles) (reject_of)
    c.kept_verdict.result c.kept_verdict.ensures.judged

pub returns-clause-exact : goal.returns-clause-exact
returns-clause-exact c =
    let plant = c.args.plant.now in
    let bundles = c.args.bundles.now in
    exact_of plant bundles (c.verdicts_are_one.ensures.reject plant bundles) (c.verdicts_are_one.ensures.either plant bundles) (reject_of)
    c.kept_verdict.result c.kept_verdict.ensures.judged
