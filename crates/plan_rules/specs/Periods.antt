-- V10, V11, V13 and V14: the periods of a device's ports, linked or not, over all phases; and its red FrameIDs.
use Rattle.std.specs.Prelude.{◌≡◌, ℕ, ◌+◌, ◌<◌, ◌≤◌, List, Some, slice_get}
use Rattle.irt_base.specs.Cycle.{cycle_time, guard_time}
use Rattle.irt_base.specs.Periods.{period_at}
use Rattle.irt_base.specs.Valid.{IsWithin}
use Rattle.irt_base.specs.declared.limits.TheConstants.{PHASES}
use Rattle.irt_base.specs.declared.blocks.Bundle.{Bundle}
use Rattle.irt_base.specs.declared.blocks.Entry.{Entry}
use Rattle.irt_base.specs.declared.blocks.Period.{Period}
use Rattle.irt_base.specs.declared.blocks.Side.TheVariants.{Tx, Rx}
use Rattle.irt_base.specs.declared.plants.Plant.{Plant}
use Rattle.plan_rules.specs.Way.{entry_at}
use Rattle.plan_rules.specs.Plan.{setup_of}
use Rattle.plan_rules.specs.declared.place.Place.{Place}

-- both sides' periods of a port in a phase
pub record HasPeriods (bundles : List Bundle) (device port phase : ℕ) (tx rx : Period) : Type 0 where
  pub bundle : Bundle
  pub held : slice_get bundles device ≡ Some bundle
  pub from_one : 1 ≤ port
  pub among : phase < PHASES
  pub sends : period_at bundle.periods port phase Tx ≡ Some tx
  pub receives : period_at bundle.periods port phase Rx ≡ Some rx

-- V10 at a device and port: red ends by the plant's red limit.
abbrev pub KeepsRedLimit : Plant → List Bundle → Place → Type 0
KeepsRedLimit plant bundles at = (phase : ℕ) (tx rx : Period) → HasPeriods bundles at.device.0 at.port phase tx rx → tx.orange ≤ plant.red_max

-- V11 at a device and frame: the FrameID is one of the red ones.
abbrev pub IsRedFrame : Plant → List Bundle → Place → Type 0
IsRedFrame plant bundles at = (e : Entry) (b : Bundle) → entry_at (setup_of plant bundles) at.device.0 at.frame ≡ Some e →
    slice_get bundles at.device.0 ≡ Some b → IsWithin b.periods.first b.periods.last at.frame

-- V13 at a device and port: orange has the plant's length.
abbrev pub HasOrange : Plant → List Bundle → Place → Type 0
HasOrange plant bundles at = (phase : ℕ) (tx rx : Period) → HasPeriods bundles at.device.0 at.port phase tx rx → tx.green ≡ tx.orange + plant.orange

-- red, orange, green, in this order
pub record IsOrdered (p : Period) : Type 0 where
  pub red : p.red ≤ p.orange
  pub orange : p.orange ≤ p.green

pub record AreOrdered (plant : Plant) (tx rx : Period) : Type 0 where
  pub sending : IsOrdered tx
  pub guard : tx.green + guard_time plant.window ≤ cycle_time plant.factor
  pub receiving : IsOrdered rx
  pub cycle : rx.green ≤ cycle_time plant.factor

-- V14 at a device and port: periods are in order; the sending ones end a guard before the cycle, the receiving
-- ones with it.
abbrev pub KeepsOrder : Plant → List Bundle → Place → Type 0
KeepsOrder plant bundles at = (phase : ℕ) (tx rx : Period) → HasPeriods bundles at.device.0 at.port phase tx rx → AreOrdered plant tx rx
