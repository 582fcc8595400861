use Rattle.iso_plant.specs.Replay.{setup_in}
use Rattle.run_replay.specs.Cycle.{AreEndsOf}
use Rattle.run_replay.proofs.cycles.ends_of.Given as goal

abbrev pub invariant-loop-app : goal.invariant-loop-app
invariant-loop-app l = AreEndsOf (setup_in l.plant) l.k l.logs l.app l.ends.items
