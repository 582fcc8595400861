-- The period of a port and side in a cycle, as the assignments of the cycle's phase say.
use Rattle.std.specs.Prelude.{ℕ, ◌-◌, ◌%◌, Option, option_map, option_and_then, slice_get}
use Rattle.irt_base.specs.declared.limits.TheConstants.{PHASES}
use Rattle.irt_base.specs.declared.blocks.Period.{Period}
use Rattle.irt_base.specs.declared.blocks.PhasePair.{PhasePair}
use Rattle.irt_base.specs.declared.blocks.Assignment.{Assignment}
use Rattle.irt_base.specs.declared.blocks.PortPeriods.{PortPeriods}
use Rattle.irt_base.specs.declared.blocks.PeriodBlock.{PeriodBlock}
use Rattle.irt_base.specs.declared.blocks.Side.{Side}
use Rattle.irt_base.specs.declared.blocks.Side.TheVariants.{Tx, Rx}

-- the number of a side's assignment
abbrev pub number_of : Side → PhasePair → ℕ
number_of Tx pair = pair.tx
number_of Rx pair = pair.rx

-- a side's period of an assignment
abbrev pub side_of : Side → Assignment → Period
side_of Tx assignment = assignment.tx
side_of Rx assignment = assignment.rx

abbrev pub port_period : PortPeriods → ℕ → Side → Option Period
port_period port k side =
    option_and_then
    (λ pair. option_map (side_of side) (slice_get port.assignments (number_of side pair)))
    (slice_get port.phases (k % PHASES))

-- the period of a port, from 1, in cycle k
abbrev pub period_at : PeriodBlock → ℕ → ℕ → Side → Option Period
period_at block port k side = option_and_then (λ p. port_period p k side) (slice_get block.ports (port - 1))
