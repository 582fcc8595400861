-- The rules of one entry, by its way.
use Rattle.std.specs.Prelude.{◌≡◌, ℕ, ◌+◌, ◌<◌, ◌≤◌, ◌⊎◌, Some, slice_get}
use Rattle.irt_base.specs.Cycle.{IsDue, guard_time}
use Rattle.irt_base.specs.Periods.{period_at}
use Rattle.irt_base.specs.declared.limits.TheConstants.{PHASES}
use Rattle.irt_base.specs.declared.blocks.Entry.{Entry}
use Rattle.irt_base.specs.declared.blocks.Period.{Period}
use Rattle.irt_base.specs.declared.blocks.PeriodBlock.{PeriodBlock}
use Rattle.irt_base.specs.declared.blocks.Side.{Side}
use Rattle.irt_base.specs.declared.plants.Device.{Device}
use Rattle.irt_base.specs.declared.plants.Plant.{Plant}
use Rattle.plan_rules.specs.Way.{Leaves, IsAbsolute}
use Rattle.plan_rules.specs.declared.way.Way.{Way}

-- the frame leaves by some port
abbrev pub LeavesSome : Entry → Type 0
LeavesSome e = (port : ℕ) × Leaves e port

-- the entry starts by its own FrameSendOffset
abbrev pub IsOwnStart : Plant → ℕ → Entry → Type 0
IsOwnStart plant device e = (e.rx_port ≡ 0) ⊎ (IsAbsolute plant device × LeavesSome e)

-- the offset comes when the frame is surely there
abbrev pub StartsLate : Plant → ℕ → Entry → Way → Type 0
StartsLate plant device e way = (d : Device) → slice_get plant.devices device ≡ Some d →
    way.latest + d.bmax + guard_time plant.window ≤ e.send_offset

-- where the entry is due in a phase, the red period of a port's side covers a stretch of the cycle
abbrev pub FitsPhase : PeriodBlock → ℕ → Side → Entry → ℕ → ℕ → ℕ → Type 0
FitsPhase block port side e phase from until = (p : Period) → IsDue phase e.ratio e.phase → period_at block port phase side ≡ Some p →
    (p.red ≤ from) × (until ≤ p.orange)

abbrev pub FitsRed : PeriodBlock → ℕ → Side → Entry → ℕ → ℕ → Type 0
FitsRed block port side e from until = (phase : ℕ) → phase < PHASES → FitsPhase block port side e phase from until
