use Rattle.std.proofs.Common.{◌≡◌, take}
use Rattle.plan_blocks.specs.Entries.{entries_at}
use Rattle.plan_blocks.proofs.entries.entries_at.Given as goal

abbrev pub invariant-loop-plan : goal.invariant-loop-plan
invariant-loop-plan l = l.entries ≡ entries_at (take l.plan-index l.plans) l.device.0
