use Rattle.std.proofs.Common.{ℕ, ◌<◌}
use Rattle.plan_rules.specs.Way.{Leaves}
use Rattle.irt_window.proofs.ports.leaves.Given as goal

abbrev pub invariant-loop-port : goal.invariant-loop-port
invariant-loop-port l = (port : ℕ) → port < l.port → Leaves l.fn.entry port → ⊥
