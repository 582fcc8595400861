use Rattle.std.proofs.Common.{sym, ◌∙◌}
use Rattle.swap_core.specs.Runs.{start}
use Rattle.swap_core.proofs.Words.{slots-on, sights-on, run-slots, sights-slots, slots-end, sights-end, risen}
use Rattle.swap_core.proofs.runs.run_steps.Goals as goal

pub loop-step-preserved : goal.loop-step-preserved
loop-step-preserved c =
    let h = c.loop-step.invariant in
    let one = c.step.ensures.slots in
    record {
      core = slots-on c.loop-step.core c.step.new.self c.args.steps.now c.loop-step.step-index _ _ c.loop-step-test.true one h.core;
      seen = sights-on c.loop-step.core c.step.new.self c.args.steps.now c.loop-step.step-index _ c.loop-step.seen.items c.push.new.self.items c.step.result _ c.loop-step-test.true one c.step.ensures.seen c.in_ok-push.ensures.items h.seen;
      newest = risen c.loop-step.core c.step.new.self _ c.loop-step.step-index one h.newest;
    }

pub returns-clause-core : goal.returns-clause-core
returns-clause-core c =
    slots-end c.loop-step.core c.args.steps.now c.loop-step.step-index _ c.loop-step-test.false c.loop-step.invariant.core
    ∙ sym (run-slots (start c.args.words) c.args.steps.now)

pub returns-clause-seen : goal.returns-clause-seen
returns-clause-seen c =
    sights-end c.loop-step.core c.args.steps.now c.loop-step.step-index c.loop-step.seen.items _ c.loop-step-test.false c.loop-step.invariant.seen
    ∙ sym (sights-slots (start c.args.words) c.args.steps.now)
