-- V1, V12 and V15: what a device's blocks repeat of the plant, and have in common.
use Rattle.std.specs.Prelude.{◌≡◌, ℕ, ◌≤◌, Bool, true, false, List, Some, length, slice_get}
use Rattle.irt_base.specs.Cycle.{budget_time}
use Rattle.irt_base.specs.Valid.{IsWithin}
use Rattle.irt_base.specs.declared.limits.TheConstants.{MAX_SEND, MAX_TIMEOUT}
use Rattle.irt_base.specs.declared.blocks.Bundle.{Bundle}
use Rattle.irt_base.specs.declared.plants.Clocks.TheVariants.{Ptcp}
use Rattle.irt_base.specs.declared.plants.Device.{Device}
use Rattle.irt_base.specs.declared.plants.Mode.{Mode}
use Rattle.irt_base.specs.declared.plants.Mode.TheVariants.{Absolute, Relative}
use Rattle.irt_base.specs.declared.plants.Plant.{Plant}
use Rattle.plant_rules.specs.Clocks.{IsDistance}
use Rattle.plan_rules.specs.declared.place.Place.{Place}

abbrev pub is_relative : Mode → Bool
is_relative Absolute = false
is_relative Relative = true

-- The blocks of a device, beside the first device's, repeat the plant's numbers.
pub record IsHeader (plant : Plant) (d : Device) (first b : Bundle) : Type 0 where
  pub window : b.sync.window ≡ plant.window
  pub factor : b.sync.factor ≡ plant.factor
  pub send : IsWithin 1 MAX_SEND b.sync.send
  pub one_send : b.sync.send ≡ first.sync.send
  pub timeout : IsWithin 1 MAX_TIMEOUT b.sync.timeout
  pub subdomain : b.sync.subdomain ≡ first.sync.subdomain
  pub uuid : b.global.uuid ≡ first.global.uuid
  pub bridge : b.global.bridge ≡ d.bmax
  pub delays : b.global.ports ≡ d.ports
  pub mode : b.frames.relative ≡ is_relative d.mode
  pub ports : length b.periods.ports ≡ length d.ports

-- V1 at a device.
abbrev pub RepeatsPlant : Plant → List Bundle → Place → Type 0
RepeatsPlant plant bundles at = (d : Device) (first b : Bundle) → slice_get plant.devices at.device.0 ≡ Some d →
    slice_get bundles 0 ≡ Some first → slice_get bundles at.device.0 ≡ Some b → IsHeader plant d first b

-- one range of red FrameIDs
pub record IsOneRange (first b : Bundle) : Type 0 where
  pub begin : b.periods.first ≡ first.periods.first
  pub end : b.periods.last ≡ first.periods.last

-- V12 at a device: the red FrameIDs are the first device's.
abbrev pub SharesRange : Plant → List Bundle → Place → Type 0
SharesRange plant bundles at = (first b : Bundle) → slice_get bundles 0 ≡ Some first → slice_get bundles at.device.0 ≡ Some b → IsOneRange first b

-- V15 at a device: where clocks are by PTCP, the clock of any device but the first stays within the window, with
-- the first bundle's send and the device's own timeout.
abbrev pub KeepsClock : Plant → List Bundle → Place → Type 0
KeepsClock plant bundles at = (first b : Bundle) (hops : ℕ) → plant.clocks ≡ Ptcp → 1 ≤ at.device.0 →
    slice_get bundles 0 ≡ Some first → slice_get bundles at.device.0 ≡ Some b → IsDistance plant at.device.0 hops →
    budget_time hops plant.sync.stamp plant.sync.drift first.sync.send b.sync.timeout ≤ plant.window
