use Rattle.std.proofs.Common.{◌≤◌, List, length, sym, ◌∙◌, ap, subst, arith, All}
use Rattle.cycle_frames.specs.Bytes.{AreFramesOf}
use Rattle.cycle_frames.specs.Came.{HaveCome}
use Rattle.irt_base.specs.declared.blocks.Bundle.{Bundle}
use Rattle.irt_base.specs.declared.plants.Plant.{Plant}
use Rattle.irt_net.proofs.Begun.{all_begun, blocks_begun, blocks_released, gated_released, gates_held, opened}
use Rattle.irt_net.proofs.Coming.{dropped, have_come}
use Rattle.irt_net.specs.Came.{came_in}
use Rattle.irt_net.specs.Whole.{IsGated}
use Rattle.irt_switch.specs.State.{SwitchState}
use Rattle.net_begin.specs.Begun.{HaveBegun}
use Rattle.net_frames.specs.Frames.{GrowsByFrames, IsReadyFor, most_frames}
use Rattle.net_parcels.specs.Loads.{HoldGates}
use Rattle.net_parcels.specs.Parcels.{AllHaveOpened}
use Rattle.net_site.specs.Site.{IsPlayedAt, bundles_of}
use Rattle.plan_rules.specs.Plan.{setup_of}
use Rattle.irt_net.proofs.frames.frames_cycle.Goals as goal

pub play_frames-requires-clause-plan : goal.play_frames-requires-clause-plan
play_frames-requires-clause-plan c =
    let same = blocks_begun _ _ _ _ _ (subst (λ (p : Plant). HaveBegun p c.args.row.now c.args.k c.args.switches.now c.begin_all.new.switches) c.plant.ensures c.begin_all.ensures) in
    subst (λ (b : List Bundle). IsPlayedAt c.args.site.now b c.args.row.now) (sym same) c.requires.plan

pub play_frames-requires-clause-begun : goal.play_frames-requires-clause-begun
play_frames-requires-clause-begun c = all_begun _ _ _ _ _ (subst (λ (p : Plant). HaveBegun p c.args.row.now c.args.k c.args.switches.now c.begin_all.new.switches) c.plant.ensures c.begin_all.ensures)

pub play_frames-requires-clause-frames : goal.play_frames-requires-clause-frames
play_frames-requires-clause-frames c =
    let same = blocks_begun _ _ _ _ _ (subst (λ (p : Plant). HaveBegun p c.args.row.now c.args.k c.args.switches.now c.begin_all.new.switches) c.plant.ensures c.begin_all.ensures) in
    subst (λ (b : List Bundle). AreFramesOf (setup_of c.args.site.now.plant b) c.args.k c.args.frames.now) (sym same) c.requires.frames

pub play_frames-requires-clause-queue : goal.play_frames-requires-clause-queue
play_frames-requires-clause-queue c =
    let same = blocks_begun _ _ _ _ _ (subst (λ (p : Plant). HaveBegun p c.args.row.now c.args.k c.args.switches.now c.begin_all.new.switches) c.plant.ensures c.begin_all.ensures) in
    subst (λ (b : List Bundle). IsReadyFor (most_frames c.args.site.now.plant b) c.args.queue.now) (sym same) c.requires.queue

pub play_frames-requires-clause-room : goal.play_frames-requires-clause-room
play_frames-requires-clause-room c =
    let same = blocks_begun _ _ _ _ _ (subst (λ (p : Plant). HaveBegun p c.args.row.now c.args.k c.args.switches.now c.begin_all.new.switches) c.plant.ensures c.begin_all.ensures) in
    subst (λ (b : List Bundle). most_frames c.args.site.now.plant b ≤ c.args.journal.now.room) (sym same) c.requires.room

pub note_came-requires-clause-room : goal.note_came-requires-clause-room
note_came-requires-clause-room c =
    let same = ap (most_frames c.args.site.now.plant) (blocks_begun _ _ _ _ _ (subst (λ (p : Plant). HaveBegun p c.args.row.now c.args.k c.args.switches.now c.begin_all.new.switches) c.plant.ensures c.begin_all.ensures)) in
    let grown = c.play_frames.ensures.rows in
    let count = ap length (dropped _ _ _ grown.part c.len-before.ensures grown.rows) in
    let few = grown.few in
    let enough = c.requires.noted in
    omega arith

pub returns-clause-rows : goal.returns-clause-rows
returns-clause-rows c =
    let same = blocks_begun _ _ _ _ _ (subst (λ (p : Plant). HaveBegun p c.args.row.now c.args.k c.args.switches.now c.begin_all.new.switches) c.plant.ensures c.begin_all.ensures) in
    subst (λ (b : List Bundle). GrowsByFrames c.args.site.now.plant b c.args.row.now c.args.k c.args.journal.now c.play_frames.new.journal) same
    c.play_frames.ensures.rows

pub returns-clause-came : goal.returns-clause-came
returns-clause-came c = λ world played.
    let same = blocks_begun _ _ _ _ _ (subst (λ (p : Plant). HaveBegun p c.args.row.now c.args.k c.args.switches.now c.begin_all.new.switches) c.plant.ensures c.begin_all.ensures) in
    let grown = subst (λ (b : List Bundle). GrowsByFrames c.args.site.now.plant b c.args.row.now c.args.k c.args.journal.now c.play_frames.new.journal) same
    c.play_frames.ensures.rows in
    let plan = c.requires.plan in
    let safe = c.accepted_plans_are_safe.ensures c.args.site.now.plant (bundles_of c.args.switches.now) plan.plan plan.accepted world played.ranges in
    let come = have_come c.args.site.now.plant (bundles_of c.args.switches.now) plan.plan world c.args.k grown.part (grown.segment world played) safe.reached in
    let rows = c.note_came.ensures.noted ∙ ap (came_in c.args.site.now.plant) (dropped _ _ _ grown.part c.len-before.ensures grown.rows) in
    subst (HaveCome (setup_of c.args.site.now.plant (bundles_of c.args.switches.now)) world c.args.k) (sym rows) come

pub returns-clause-queue : goal.returns-clause-queue
returns-clause-queue c =
    let same = blocks_begun _ _ _ _ _ (subst (λ (p : Plant). HaveBegun p c.args.row.now c.args.k c.args.switches.now c.begin_all.new.switches) c.plant.ensures c.begin_all.ensures) in
    subst (λ (b : List Bundle). IsReadyFor (most_frames c.args.site.now.plant b) c.play_frames.new.queue) same c.play_frames.ensures.queue

pub returns-clause-blocks : goal.returns-clause-blocks
returns-clause-blocks c = ap bundles_of c.play_frames.ensures.switches ∙ blocks_released _ _ _ _ _ (subst (λ (p : Plant). HaveBegun p c.args.row.now c.args.k c.args.switches.now c.begin_all.new.switches) c.plant.ensures c.begin_all.ensures)

pub returns-clause-gated : goal.returns-clause-gated
returns-clause-gated c =
    subst (λ (xs : List SwitchState). All IsGated xs) (sym c.play_frames.ensures.switches) (gated_released _ _ _ _ _ (subst (λ (p : Plant). HaveBegun p c.args.row.now c.args.k c.args.switches.now c.begin_all.new.switches) c.plant.ensures c.begin_all.ensures) c.requires.gated)

pub returns-clause-opened : goal.returns-clause-opened
returns-clause-opened c =
    subst (AllHaveOpened c.args.site.now.plant c.args.row.now c.args.k) (sym c.play_frames.ensures.switches)
    (opened _ _ _ _ _ (subst (λ (p : Plant). HaveBegun p c.args.row.now c.args.k c.args.switches.now c.begin_all.new.switches) c.plant.ensures c.begin_all.ensures) c.requires.gated c.requires.plan.plan.blocks)

pub returns-clause-gates : goal.returns-clause-gates
returns-clause-gates c = λ gates hold.
    subst (λ (xs : List SwitchState). HoldGates c.args.site.now.plant xs gates) (sym c.play_frames.ensures.switches)
    (gates_held _ _ _ _ _ (subst (λ (p : Plant). HaveBegun p c.args.row.now c.args.k c.args.switches.now c.begin_all.new.switches) c.plant.ensures c.begin_all.ensures) c.requires.gated c.requires.plan.plan.blocks gates hold)
