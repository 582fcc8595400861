use Rattle.iso_plant.specs.Replay.{setup_in}
use Rattle.run_replay.proofs.Playing.{ends_more}
use Rattle.run_replay.proofs.cycles.ends_of.Goals as goal

pub loop-app-preserved : goal.loop-app-preserved
loop-app-preserved c =
    ends_more (setup_in c.args.plant.now) c.args.k c.loop-app.app c.args.logs.now c.loop-app.ends.items c.push.new.self.items c.in_ok-end_of.field-0 c.loop-app.invariant
    c.in_ok-end_of.ensures c.in_ok-push.ensures.items
