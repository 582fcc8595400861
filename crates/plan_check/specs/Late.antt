-- Whose clock may be off by more than the window.
use Rattle.std.specs.Prelude.{◌≡◌, ℕ, ◌<◌, List, Some, slice_get}
use Rattle.irt_base.specs.declared.blocks.Bundle.{Bundle}
use Rattle.irt_base.specs.declared.plants.Plant.{Plant}
use Rattle.irt_route.specs.Clocks.{ClockTable, clock_budget}

-- by the clock tree, with the first bundle's send and the device's own timeout
pub record IsLate (plant : Plant) (bundles : List Bundle) (tree : ClockTable) (device : ℕ) : Type 0 where
  pub first : Bundle
  pub own : Bundle
  pub starts : slice_get bundles 0 ≡ Some first
  pub stands : slice_get bundles device ≡ Some own
  pub over : plant.window < clock_budget tree plant.sync device first.sync.send own.sync.timeout
