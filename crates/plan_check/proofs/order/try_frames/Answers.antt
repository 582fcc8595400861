use Rattle.std.proofs.Common.{subst}
use Rattle.irt_window.specs.Trees.{IsTreeAnswer}
use Rattle.irt_window.specs.declared.windows.Trees.{Trees}
use Rattle.plan_check.proofs.Judging.{fails_first}
use Rattle.plan_check.proofs.order.try_frames.Goals as goal

pub later_reject-requires-clause-before : goal.later_reject-requires-clause-before
later_reject-requires-clause-before c =
    let plant = c.args.net.now.plant.now in
    let bundles = c.args.net.now.bundles.now in
    let answer = subst (λ (t : Trees). IsTreeAnswer plant bundles t) c.in-Whole.is c.in_ok-place.ensures in
    c.verdicts_are_one.ensures.next plant bundles 2 c.requires.before (λ at. answer.0 at.device.0 at.frame)

pub returns-in-Broken : goal.returns-in-Broken
returns-in-Broken c =
    let plant = c.args.net.now.plant.now in
    let bundles = c.args.net.now.bundles.now in
    fails_first plant bundles 2 c.in-Broken.place c.requires.before
    (subst (λ (t : Trees). IsTreeAnswer plant bundles t) c.in-Broken.is c.in_ok-place.ensures)
