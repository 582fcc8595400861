use Rattle.plan_blocks.specs.Periods.{ArePhasesBelow}
use Rattle.plan_blocks.proofs.periods.port_periods.Given as goal

abbrev pub invariant-loop-k : goal.invariant-loop-k
invariant-loop-k l = ArePhasesBelow l.orange l.tx l.rx l.device.0 l.port.0 l.k (record { assignments = l.assignments; phases = l.phases })
