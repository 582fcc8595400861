use Rattle.std.proofs.Common.{◌∙◌, arith}
use Rattle.plan_run.specs.Size.{app_words}
use Rattle.plan_run.proofs.Words.{app_counted}
use Rattle.plan_run.proofs.size.words_a_cycle.Goals as goal

pub loop-app-preserved : goal.loop-app-preserved
loop-app-preserved c =
    let same = c.from-words.ensures in
    let small = c.app_words.ensures.small in
    app_counted (app_words c.args.plant.now c.args.bundles.now) c.as_slice-app-items.result.now c.loop-app.app-index c.loop-app.words c.from-words.result 67108864 _ c.loop-app.invariant
    c.loop-app-test.true (same ∙ c.app_words.ensures.value c.args.plant.now) (omega (arith, same, small))
