use Rattle.std.proofs.Common.{length}
use Rattle.iso_plant.specs.Replay.{setup_in}
use Rattle.run_replay.proofs.Playing.{ends_fresh, ends_serve, taken_more}
use Rattle.run_replay.proofs.cycles.play_cycle.Goals as goal

pub step-requires-clause-ends : goal.step-requires-clause-ends
step-requires-clause-ends c =
    ends_serve c.args.plant.now (length c.args.plant.now.world.rows) c.done.result c.args.logs.now c.in_ok-ends.ends.ends.items c.requires.shape c.in_ok-ends.ensures

pub step-requires-clause-fresh : goal.step-requires-clause-fresh
step-requires-clause-fresh c =
    ends_fresh (setup_in c.args.plant.now) c.done.result c.args.logs.now (length c.args.logs.now) c.in_ok-ends.ends.ends.items c.in_ok-ends.ensures

pub returns-clause-taken : goal.returns-clause-taken
returns-clause-taken c =
    taken_more c.args.plant.now c.step.new.self (length c.args.plant.now.world.rows) c.done.result c.args.logs.now c.in_ok-ends.ends.ends.items
    c.step.new.ends.ends.items c.requires.shape c.in_ok-ends.ensures c.done.ensures.done c.step.ensures c.requires.taken
