-- The rules of blocks without windows.
use Rattle.std.specs.Prelude.{◌≡◌, ℕ, ◌+◌, ◌<◌, ◌≤◌, List, Some}
use Rattle.irt_base.specs.Periods.{period_at}
use Rattle.irt_base.specs.declared.limits.TheConstants.{PHASES}
use Rattle.irt_base.specs.declared.blocks.Bundle.{Bundle}
use Rattle.irt_base.specs.declared.blocks.Period.{Period}
use Rattle.irt_base.specs.declared.blocks.PeriodBlock.{PeriodBlock}
use Rattle.irt_base.specs.declared.blocks.Side.TheVariants.{Tx, Rx}
use Rattle.irt_base.specs.declared.plants.Plant.{Plant}
use Rattle.plan_rules.specs.declared.place.Place.{Place}
use Rattle.plan_rules.specs.Headers.{RepeatsPlant, SharesRange}
use Rattle.plan_rules.specs.Periods.{IsRedFrame, HasPeriods, AreOrdered}
use Rattle.block_rules.specs.declared.rules.BlockRule.{BlockRule}
use Rattle.block_rules.specs.declared.rules.BlockRule.TheVariants.{Device, RedFrame, Periods}
use Rattle.block_rules.specs.declared.rules.DeviceRule.TheVariants.{Header, Range}
use Rattle.block_rules.specs.declared.rules.PeriodRule.{PeriodRule}
use Rattle.block_rules.specs.declared.rules.PeriodRule.TheVariants.{RedLimit, Orange, Order}

-- a rule of one port's periods in one phase
abbrev pub KeepsPeriods : PeriodRule → Plant → Period → Period → Type 0
KeepsPeriods RedLimit plant tx rx = tx.orange ≤ plant.red_max
KeepsPeriods Orange plant tx rx = tx.green ≡ tx.orange + plant.orange
KeepsPeriods Order plant tx rx = AreOrdered plant tx rx

-- the same of one port in all phases
abbrev pub KeepsPort : PeriodRule → Plant → PeriodBlock → ℕ → Type 0
KeepsPort rule plant block port = (phase : ℕ) (tx rx : Period) → phase < PHASES → period_at block port phase Tx ≡ Some tx →
    period_at block port phase Rx ≡ Some rx → KeepsPeriods rule plant tx rx

-- V1, V12, V11, and V10, V13, V14 at a place
abbrev pub Holds : BlockRule → Plant → List Bundle → Place → Type 0
Holds (Device Header) plant bundles at = RepeatsPlant plant bundles at
Holds (Device Range) plant bundles at = SharesRange plant bundles at
Holds RedFrame plant bundles at = IsRedFrame plant bundles at
Holds (Periods rule) plant bundles at =
    (phase : ℕ) (tx rx : Period) → HasPeriods bundles at.device.0 at.port phase tx rx → KeepsPeriods rule plant tx rx
