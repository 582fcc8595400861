use Rattle.std.proofs.Common.{◌≡◌, replicate}
use Rattle.period_gate.specs.Gate.{nothing_waiting}
use Rattle.irt_switch.proofs.gates.new_gates.Given as goal

abbrev pub invariant-loop-port : goal.invariant-loop-port
invariant-loop-port l = l.gates.items ≡ replicate l._port nothing_waiting
