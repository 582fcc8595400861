use Rattle.std.proofs.Common.{◌≤◌, ℕ}
use Rattle.block_rules.specs.Scanning.{KeepsPort}
use Rattle.block_rules.proofs.ports.first_port.Given as goal

abbrev pub invariant-loop-index : goal.invariant-loop-index
invariant-loop-index l = (n : ℕ) → 1 ≤ n → n ≤ l.index → KeepsPort l.rule l.plant l.block n
