use Rattle.std.proofs.Common.{Option}
use Rattle.plan_rules.specs.declared.place.Reject.{Reject}
use Rattle.plan_check.proofs.Judging.{only_of, exact_of, safe_of}
use Rattle.plan_check.proofs.check.judge_plan.Goals as goal

pub returns-clause-safe : goal.returns-clause-safe
returns-clause-safe c =
    let plant = c.args.plant.now in
    let bundles = c.args.bundles.now in
    safe_of plant bundles (λ (found : Option Reject). found) c.first_failure.result c.first_failure.ensures (c.accepted_plans_are_safe.ensures plant bundles c.requires)

pub returns-clause-only : goal.returns-clause-only
returns-clause-only c =
    let plant = c.args.plant.now in
    let bundles = c.args.bundles.now in
    only_of plant bundles (c.verdicts_are_one.ensures.reject plant bundles) (c.verdicts_are_one.ensures.either plant bundles) (λ (found : Option Reject). found)
    c.first_failure.result c.first_failure.ensures

pub returns-clause-exact : goal.returns-clause-exact
returns-clause-exact c =
    let plant = c.args.plant.now in
    let bundles = c.args.bundles.now in
    exact_of plant bundles (c.verdicts_are_one.ensures.reject plant bundles) (c.verdicts_are_one.ensures.either plant bundles) (λ (found : Option Reject). found)
    c.first_failure.result c.first_failure.ensures
