-- Greatest numbers of parts: of the devices, the ports and the phases.
use Rattle.std.specs.Prelude.{◌≡◌, ℕ, ◌<◌, ◌≤◌, List, Some, slice_get}
use Rattle.irt_base.specs.Periods.{period_at}
use Rattle.irt_base.specs.declared.limits.TheConstants.{PHASES}
use Rattle.irt_base.specs.declared.blocks.Bundle.{Bundle}
use Rattle.irt_base.specs.declared.blocks.Period.{Period}
use Rattle.irt_base.specs.declared.blocks.PeriodBlock.{PeriodBlock}
use Rattle.irt_base.specs.declared.blocks.Side.TheVariants.{Tx}

-- something holds of the number at one of so many places, from 0
abbrev pub IsAnyBelow : (ℕ → ℕ → Type 0) → ℕ → ℕ → Type 0
IsAnyBelow Holds count x = (n : ℕ) × (n < count) × Holds n x

-- the begin of orange of a sending port in a phase
abbrev pub IsPhaseBegin : PeriodBlock → ℕ → ℕ → ℕ → Type 0
IsPhaseBegin block port phase begin = (tx : Period) × (period_at block port phase Tx ≡ Some tx) × (begin ≡ tx.orange)

-- in some phase
abbrev pub IsPortBegin : PeriodBlock → ℕ → ℕ → Type 0
IsPortBegin block port begin = IsAnyBelow (IsPhaseBegin block port) PHASES begin

-- at one of the ports, which count from 1
abbrev pub IsBlockBegin : PeriodBlock → ℕ → Type 0
IsBlockBegin block begin = (port : ℕ) × (1 ≤ port) × IsPortBegin block port begin

-- of a device's block
abbrev pub IsDeviceBegin : List Bundle → ℕ → ℕ → Type 0
IsDeviceBegin bundles device begin = (b : Bundle) × (slice_get bundles device ≡ Some b) × IsBlockBegin b.periods begin
