use Rattle.std.proofs.Common.{rules, ◌∙◌, ap, length, sym}
use Rattle.irt_world.specs.declared.rows.World.{World}
use Rattle.run_replay.proofs.Playing.{begun_taken, shape_in}
use Rattle.run_replay.proofs.cycles.play_all.Goals as goal

pub loop-k-init : goal.loop-k-init
loop-k-init c = record {
  done = search rules;
  same = search rules;
  taken = begun_taken c.args.plant.now c.args.cycles c.args.logs.now c.done-k.ensures.replay.cycles c.requires.shape c.requires.begun;
}

pub play_cycle-requires-clause-shape : goal.play_cycle-requires-clause-shape
play_cycle-requires-clause-shape c =
    let same = c.loop-k.invariant.same in
    shape_in c.loop-k.plant c.args.plant.now.plant c.args.plant.now.bundles c.args.cycles _ c.args.logs.now same.plant same.bundles
    (c.requires.cycles ∙ ap (λ (w : World). length w.rows) (sym same.world)) c.requires.shape
