-- The bundles of placed frames, by last ends. Times are ns.
use Rattle.std.specs.Prelude.{◌≡◌, ℕ, ◌+◌, ◌^◌, ◌<◌, List, Some, length, slice_get}
use Rattle.irt_base.specs.declared.limits.TheConstants.{MIN_FRAME, MAX_FRAME, PHASES}
use Rattle.irt_base.specs.declared.blocks.Bundle.{Bundle}
use Rattle.irt_base.specs.declared.blocks.PeriodBlock.{PeriodBlock}
use Rattle.irt_base.specs.declared.blocks.PortPeriods.{PortPeriods}
use Rattle.irt_base.specs.declared.plants.Device.{Device}
use Rattle.irt_base.specs.declared.plants.Plant.{Plant}
use Rattle.plan_rules.specs.Headers.{is_relative}
use Rattle.placement.specs.Tables.{IsPlace}
use Rattle.fit_rules.specs.declared.fixed.TheConstants.{SLOT, SUBSLOT}
use Rattle.fit_rules.specs.declared.frame_plan.FramePlan.{FramePlan}
use Rattle.fit_rules.specs.Blocks.{sync_of, global_of}
use Rattle.plan_blocks.specs.Ends.{end_at}
use Rattle.plan_blocks.specs.Entries.{entries_at}
use Rattle.plan_blocks.specs.Periods.{ArePhasesBelow}

-- orange after each of the ends fits a period
abbrev pub AreSmallEnds : ℕ → List ℕ → Type 0
AreSmallEnds orange ends = (device port k : ℕ) → IsPlace device port k → end_at ends device port k + orange < 2 ^ 32

pub record ArePeriodsBy (orange : ℕ) (tx rx : List ℕ) (device count : ℕ) (b : PeriodBlock) : Type 0 where
  pub begin : b.first ≡ MIN_FRAME
  pub end : b.last ≡ MAX_FRAME
  pub count_is : length b.ports ≡ count
  pub ports : (n : ℕ) (p : PortPeriods) → slice_get b.ports n ≡ Some p → ArePhasesBelow orange tx rx device (n + 1) PHASES p

pub record IsBundleBy (plant : Plant) (plans : List FramePlan) (tx rx : List ℕ) (device : ℕ) (d : Device) (b : Bundle) : Type 0 where
  pub sync : b.sync ≡ sync_of plant device
  pub slot : b.slot ≡ SLOT
  pub subslot : b.subslot ≡ SUBSLOT
  pub global : b.global ≡ global_of d
  pub mode : b.frames.relative ≡ is_relative d.mode
  pub entries : b.frames.entries ≡ entries_at plans device
  pub periods : ArePeriodsBy plant.orange tx rx device (length d.ports) b.periods

-- the bundles of the first so many devices
pub record AreBundlesBelow (plant : Plant) (plans : List FramePlan) (tx rx : List ℕ) (below : ℕ) (bundles : List Bundle) : Type 0 where
  pub count : length bundles ≡ below
  pub each : (device : ℕ) (d : Device) (b : Bundle) → slice_get plant.devices device ≡ Some d → slice_get bundles device ≡ Some b →
      IsBundleBy plant plans tx rx device d b

abbrev pub AreBundlesBy : Plant → List FramePlan → List ℕ → List ℕ → List Bundle → Type 0
AreBundlesBy plant plans tx rx bundles = AreBundlesBelow plant plans tx rx (length plant.devices) bundles
