use Rattle.std.proofs.Common.{◌<◌, ℕ, get_or}
use Rattle.irt_base.specs.Valid.{IsPortPeriods}
use Rattle.irt_base.specs.declared.blocks.PortPeriods.{PortPeriods}
use Rattle.block_values.proofs.periods.are_ports.Given as goal

abbrev pub invariant-loop-port : goal.invariant-loop-port
invariant-loop-port l = (k : ℕ) (d : PortPeriods) → k < l.port-index → IsPortPeriods (get_or l.ports k d)
