use Rattle.std.proofs.Common.{◌≡◌, ◌+◌, Some, None, sym, ◌∙◌, ap, subst, arith}
use Rattle.irt_window.proofs.InTree.{demand_frame}
use Rattle.irt_base.specs.declared.numbers.FrameId.{FrameId}
use Rattle.plan_rules.specs.Tree.{demand_of}
use Rattle.plan_schedule.proofs.ScheduleLemmas.{AreBelow, none_below, none_more, one_more, all_below}
use Rattle.plan_schedule.proofs.frames.schedule_all.Goals as goal
use Rattle.plan_schedule.proofs.frames.schedule_all.Goals.{in-Some+in_ok-push, in_default}

pub loop-frame-init : goal.loop-frame-init
loop-frame-init c = none_below c.args.net.now.plant.now c.args.net.now.bundles.now _ c.new-rows.result c.requires.net.plan.rules (omega arith) c.new-rows.ensures

pub schedule_of-requires-clause-asked : goal.schedule_of-requires-clause-asked
schedule_of-requires-clause-asked c =
    let plant = c.args.net.now.plant.now in
    let asked : demand_of plant c.loop-frame.frame ≡ Some c.in-Some.demand.now = sym c.in-Some.ensures in
    subst (λ f. demand_of plant f ≡ Some c.in-Some.demand.now) (sym (demand_frame plant c.loop-frame.frame c.in-Some.demand.now asked)) asked

pub loop-frame-preserved : goal.loop-frame-preserved
loop-frame-preserved c =
    let plant = c.args.net.now.plant.now in
    let bundles = c.args.net.now.bundles.now in
    elim c.match-demand_at.branch [
      | in-Some+in_ok-push w ↦
          let asked : demand_of plant c.loop-frame.frame ≡ Some w.in-Some.demand.now = sym w.in-Some.ensures in
          one_more plant bundles c.loop-frame.frame c.loop-frame.rows c.match-demand_at.rows w.schedule_of.result w.schedule_of.ensures.is
          (ap (λ (f : FrameId). f.0) w.schedule_of.ensures.frame ∙ demand_frame plant c.loop-frame.frame w.in-Some.demand.now asked)
          (w.rows-is ∙ w.in_ok-push.ensures.ok) c.loop-frame.invariant
      | in_default w ↦
          let none : demand_of plant c.loop-frame.frame ≡ None = sym w.in_default.ensures in
          subst (AreBelow plant bundles (c.loop-frame.frame + 1)) (sym w.rows-is) (none_more plant bundles c.loop-frame.frame c.loop-frame.rows none c.loop-frame.invariant)
    ]

pub returns : goal.returns
returns c = all_below c.args.net.now.plant.now c.args.net.now.bundles.now c.loop-frame.frame c.loop-frame.rows c.requires.net.plan.rules (omega arith) c.loop-frame.invariant
