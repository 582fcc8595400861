use Rattle.planner.proofs.Kept.{AreEntriesBelow}
use Rattle.planner.proofs.frame.placed_entries.Given as goal

abbrev pub invariant-loop-device : goal.invariant-loop-device
invariant-loop-device l = AreEntriesBelow l.rate l.offsets l.entries l.device l.placed
