use Rattle.std.proofs.Common.{sym, subst}
use Rattle.plan_rules.specs.Headers.{KeepsClock}
use Rattle.plan_rules.specs.Places.{IsLeastBreak}
use Rattle.plan_rules.specs.declared.place.Place.{Place}
use Rattle.plan_check.proofs.ClockBreaks.{first_late, none_late}
use Rattle.plan_check.proofs.clocks.first_late.Goals as goal

pub returns-then-is_late : goal.returns-then-is_late
returns-then-is_late c =
    subst (λ (at : Place). IsLeastBreak (KeepsClock c.args.plant.now c.args.bundles.now) at) (sym c.new.ensures)
    (first_late c.args.plant.now c.args.bundles.now c.args.tree.now c.requires.plan c.requires.tree c.loop-device.device c.requires.ptcp c.loop-device.invariant
    (c.is_late.ensures.0 c.if-is_late.true))

pub returns : goal.returns
returns c =
    none_late c.args.plant.now c.args.bundles.now c.args.tree.now c.requires.plan c.requires.tree c.loop-device.device c.loop-device-test.false
    c.loop-device.invariant
