use Rattle.std.proofs.Common.{◌≡◌, ◌<◌, ℕ, Some}
use Rattle.irt_base.specs.Periods.{period_at}
use Rattle.irt_base.specs.declared.blocks.Period.{Period}
use Rattle.irt_base.specs.declared.blocks.Side.TheVariants.{Tx, Rx}
use Rattle.block_rules.specs.Scanning.{KeepsPeriods}
use Rattle.block_rules.proofs.ports.keeps_port.Given as goal

abbrev pub invariant-loop-phase : goal.invariant-loop-phase
invariant-loop-phase l =
    (phase : ℕ) (tx rx : Period) → phase < l.phase → period_at l.block l.port.0 phase Tx ≡ Some tx →
    period_at l.block l.port.0 phase Rx ≡ Some rx → KeepsPeriods l.rule l.plant tx rx
