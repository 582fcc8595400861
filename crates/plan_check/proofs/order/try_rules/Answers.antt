use Rattle.std.proofs.Common.{List, sym, subst}
use Rattle.irt_base.specs.declared.blocks.Bundle.{Bundle}
use Rattle.irt_base.specs.declared.plants.Plant.{Plant}
use Rattle.plan_rules.specs.Places.{KeepsBelow}
use Rattle.plan_check.proofs.Judging.{keeps_none, keeps_headers, fails_first}
use Rattle.plan_check.proofs.order.try_rules.Goals as goal

pub returns-in-Some : goal.returns-in-Some
returns-in-Some c =
    fails_first c.args.plant.now c.args.bundles.now 1 c.in-Some.place (keeps_none c.args.plant.now c.args.bundles.now) c.in-Some.ensures

pub try_frames-requires-clause-before : goal.try_frames-requires-clause-before
try_frames-requires-clause-before c =
    let plant = c.args.plant.now in
    let bundles = c.args.bundles.now in
    subst (λ (p : Plant). KeepsBelow p c.new-2.result.bundles.now 2) (sym c.new-2.ensures.plant)
    (subst (λ (b : List Bundle). KeepsBelow plant b 2) (sym c.new-2.ensures.bundles)
    (keeps_headers plant bundles (c.verdicts_are_one.ensures.next plant bundles) c.in_default.ensures))
