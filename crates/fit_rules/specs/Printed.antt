-- What is printed of a plan.
use Rattle.std.specs.Prelude.{◌≡◌, ℕ, Some, List}
use Rattle.irt_base.specs.declared.blocks.Bundle.{Bundle}
use Rattle.irt_base.specs.declared.blocks.Entry.{Entry}
use Rattle.irt_base.specs.declared.blocks.Period.{Period}
use Rattle.irt_base.specs.declared.plants.Demand.{Demand}
use Rattle.plan_rules.specs.Arrival.{IsPlanned}
use Rattle.plan_rules.specs.Way.{Setup, entry_at}
use Rattle.plan_rules.specs.Periods.{HasPeriods}
use Rattle.fit_rules.specs.Blocks.{IsGreatest}

-- by when some receiver of the frame has it
abbrev pub IsPlannedSomewhere : Setup → ℕ → ℕ → Type 0
IsPlannedSomewhere setup frame planned = (device : ℕ) × IsPlanned setup device frame planned

-- a demand's ratio and phase, and by when its last receiver has the frame
pub record IsSchedule (setup : Setup) (demand : Demand) (ratio phase planned : ℕ) : Type 0 where
  pub e : Entry
  pub provided : entry_at setup demand.provider.0 demand.frame.0 ≡ Some e
  pub ratio_is : e.ratio ≡ ratio
  pub phase_is : e.phase ≡ phase
  pub last : IsGreatest (IsPlannedSomewhere setup demand.frame.0) planned

-- the begin of orange at some sending port in some phase
pub record IsOrangeBegin (bundles : List Bundle) (begin : ℕ) : Type 0 where
  pub device : ℕ
  pub port : ℕ
  pub phase : ℕ
  pub tx : Period
  pub rx : Period
  pub periods : HasPeriods bundles device port phase tx rx
  pub is : begin ≡ tx.orange

-- the end of the plan's red periods
abbrev pub IsRedEnd : List Bundle → ℕ → Type 0
IsRedEnd bundles end = IsGreatest (IsOrangeBegin bundles) end
