use Rattle.std.proofs.Common.{rules, ◌≡◌, ◌∙◌, ap, length, subst, sym, List}
use Rattle.irt_base.specs.declared.plants.Plant.{Plant}
use Rattle.iso_rules.specs.Lockstep.{AppLog}
use Rattle.plan_rules.specs.Plan.{setup_of}
use Rattle.run_replay.proofs.Judging.{judged}
use Rattle.run_replay.proofs.Playing.{shape_in}
use Rattle.run_replay.specs.Replayed.{HasShape}
use Rattle.run_replay.proofs.replay.replays.Goals as goal

pub play_all-requires-clause-shape : goal.play_all-requires-clause-shape
play_all-requires-clause-shape c =
    let new = c.in_ok-plant.ensures in
    let cycles : length c.args.world.rows ≡ c.len-cycles.result = search rules in
    shape_in c.in_ok-plant.plant c.args.accepted.now.plant c.args.accepted.now.bundles (length c.args.world.rows) c.len-cycles.result c.as_slice.result.now
    new.plant new.bundles cycles
    (subst (λ (logs : List AppLog). HasShape (setup_of c.args.accepted.now.plant c.args.accepted.now.bundles) (length c.args.world.rows) logs)
    (sym c.as_slice.ensures) c.requires.shape)

pub has_left-requires : goal.has_left-requires
has_left-requires c =
    let same = c.in_ok-play_all.ensures.same in
    let new = c.in_ok-plant.ensures in
    c.into_history.ensures.count ∙ ap (λ (p : Plant). length p.apps) (same.plant ∙ new.plant) ∙ sym c.requires.shape.count

pub returns : goal.returns
returns c =
    let same = c.in_ok-play_all.ensures.same in
    let new = c.in_ok-plant.ensures in
    let left = c.into_history.ensures in
    let cycles : c.len-cycles.result ≡ length c.args.world.rows = search rules in
    judged c.play_all.new.plant c.into_history.result c.args.record.now c.as_slice.result.now c.len-cycles.result c.has_left.result
    c.args.accepted.now.plant c.args.accepted.now.bundles c.args.routes.now.walks c.args.world
    (same.plant ∙ new.plant) (same.bundles ∙ new.bundles) (same.walks ∙ new.walks) (same.world ∙ new.world)
    left.replay c.in_ok-play_all.ensures.done cycles c.requires.shape c.as_slice.ensures c.in_ok-play_all.ensures.taken
    (record { count = left.count; apps = left.apps }) left.journal
    c.images_are_one.ensures.images c.journals_are_one.ensures.journals c.has_left.ensures
