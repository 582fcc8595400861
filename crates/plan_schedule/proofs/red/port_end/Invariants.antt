use Rattle.fit_rules.specs.Blocks.{IsGreatest}
use Rattle.plan_schedule.specs.Greatest.{IsAnyBelow, IsPhaseBegin}
use Rattle.plan_schedule.proofs.red.port_end.Given as goal

abbrev pub invariant-loop-phase : goal.invariant-loop-phase
invariant-loop-phase l = IsGreatest (IsAnyBelow (IsPhaseBegin l.block l.port.0) l.phase) l.end
