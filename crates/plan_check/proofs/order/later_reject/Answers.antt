use Rattle.std.proofs.Common.{Option, subst, arith, ◌≡◌, ℕ, ◌+◌}
use Rattle.plan_rules.specs.Places.{IsScan, KeepsBelow}
use Rattle.plan_rules.specs.Rules.{KeepsRule}
use Rattle.plan_rules.specs.declared.place.Place.{Place}
use Rattle.plan_check.proofs.Judging.{fails_first}
use Rattle.plan_check.proofs.order.later_reject.Goals as goal

pub returns-in-Some : goal.returns-in-Some
returns-in-Some c =
    let plant = c.args.net.now.plant.now in
    let bundles = c.args.net.now.bundles.now in
    let rule = c.loop-rule.rule in
    fails_first plant bundles rule c.in-Some.place c.loop-rule.invariant
    (subst (λ (found : Option Place). IsScan (KeepsRule plant bundles rule) found) c.in-Some.is c.in_ok-place.ensures)

pub loop-rule-preserved : goal.loop-rule-preserved
loop-rule-preserved c =
    let plant = c.args.net.now.plant.now in
    let bundles = c.args.net.now.bundles.now in
    let rule = c.loop-rule.rule in
    c.verdicts_are_one.ensures.next plant bundles rule c.loop-rule.invariant
    (subst (λ (found : Option Place). IsScan (KeepsRule plant bundles rule) found) c.in_default.is c.in_ok-place.ensures)

pub returns : goal.returns
returns c =
    let plant = c.args.net.now.plant.now in
    let bundles = c.args.net.now.bundles.now in
    let past : c.loop-rule.rule ≡ 16 = omega (arith, c.loop-rule-test.false) in
    c.verdicts_are_one.ensures.all plant bundles (subst (λ (n : ℕ). KeepsBelow plant bundles n) past c.loop-rule.invariant)
