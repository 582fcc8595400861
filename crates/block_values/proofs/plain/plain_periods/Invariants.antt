use Rattle.std.proofs.Common.{◌≡◌, replicate}
use Rattle.block_values.specs.Plain.{plain_port, plain_period}
use Rattle.block_values.proofs.plain.plain_periods.Given as goal

abbrev pub invariant-loop-port : goal.invariant-loop-port
invariant-loop-port l = l.all ≡ replicate l._port (plain_port (plain_period l.plant))
