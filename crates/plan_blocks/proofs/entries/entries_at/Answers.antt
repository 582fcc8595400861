use Rattle.std.proofs.Common.{◌++◌, ◌∷◌, [], List, sym, ◌∙◌, ap}
use Rattle.std.proofs.lemmas.List.{take_all}
use Rattle.irt_base.specs.declared.blocks.Entry.{Entry}
use Rattle.fit_rules.specs.declared.frame_plan.FramePlan.{FramePlan}
use Rattle.fit_rules.specs.Shape.{entry_of}
use Rattle.plan_blocks.specs.Entries.{entries_at}
use Rattle.plan_blocks.proofs.Lists.{next_given, next_none}
use Rattle.plan_blocks.proofs.entries.entries_at.Goals.{in-Some+in_ok-push-in-Some, in-None}
use Rattle.plan_blocks.proofs.entries.entries_at.Goals as goal

pub loop-plan-preserved : goal.loop-plan-preserved
loop-plan-preserved c =
    let h = λ (plan : FramePlan). entry_of plan c.args.device.0 in
    elim c.match-entry_of.branch [
      | in-Some+in_ok-push-in-Some w ↦
          w.entries-is ∙ w.in_ok-push-in-Some.ensures.ok ∙ ap (λ (ys : List Entry). ys ++ w.in-Some.entry ∷ []) c.loop-plan.invariant
          ∙ sym (next_given h c.args.plans.now c.loop-plan.plan-index c.plan-item.result w.in-Some.entry c.loop-plan-test.true (w.in-Some.ensures ∙ ap h c.plan-item.is))
      | in-None w ↦
          w.entries-is ∙ c.loop-plan.invariant
          ∙ sym (next_none h c.args.plans.now c.loop-plan.plan-index c.plan-item.result c.loop-plan-test.true (w.in-None.ensures ∙ ap h c.plan-item.is))
    ]

pub returns : goal.returns
returns c = c.loop-plan.invariant ∙ ap (λ xs. entries_at xs c.args.device.0) (take_all c.loop-plan.plan-index c.args.plans.now c.loop-plan-test.false)
