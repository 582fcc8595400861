use Rattle.std.proofs.Common.{◌+◌}
use Rattle.fit_rules.specs.Blocks.{IsGreatest}
use Rattle.plan_schedule.specs.Greatest.{IsAnyBelow, IsPortBegin}
use Rattle.plan_schedule.proofs.red.block_end.Given as goal

abbrev pub invariant-loop-index : goal.invariant-loop-index
invariant-loop-index l = IsGreatest (IsAnyBelow (λ n begin. IsPortBegin l.block (n + 1) begin) l.index) l.end
