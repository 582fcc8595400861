use Rattle.plan_schedule.proofs.ScheduleLemmas.{AreBelow}
use Rattle.plan_schedule.proofs.frames.schedule_all.Given as goal

abbrev pub invariant-loop-frame : goal.invariant-loop-frame
invariant-loop-frame l = AreBelow l.net.plant.now l.net.bundles.now l.frame l.rows
