-- The world of a seed: by PTCP where the plant's clocks are, else the seeded one.
use Rattle.std.specs.Prelude.{◌≡◌, ℕ, List, map, Some, slice_get}
use Rattle.irt_base.specs.declared.blocks.Bundle.{Bundle}
use Rattle.irt_base.specs.declared.plants.Clocks.{Clocks}
use Rattle.irt_base.specs.declared.plants.Clocks.TheVariants as clocks
use Rattle.irt_base.specs.declared.plants.Plant.{Plant}
use Rattle.irt_route.specs.Clocks.{ClockTable, IsClockTreeOf}
use Rattle.irt_world.specs.Rows.{Fits}
use Rattle.irt_world.specs.Seeded.{seeded_rows}
use Rattle.irt_world.specs.declared.rows.World.{World}
use Rattle.sync_world.specs.World.{ptcp_rows}

-- the timeout of each device, in sync messages
abbrev pub timeouts_of : List Bundle → List ℕ
timeouts_of bundles = map (λ (b : Bundle). b.sync.timeout) bundles

-- It is the world that PTCP makes along the plant's clock tree, with the cycles between two sync messages of device 0
-- and each device's own timeout.
pub record IsPtcpWorld (plant : Plant) (bundles : List Bundle) (seed cycles : ℕ) (world : World) : Type 0 where
  pub tree : ClockTable
  pub is_tree : IsClockTreeOf plant tree
  pub first : Bundle
  pub is_first : slice_get bundles 0 ≡ Some first
  pub rows : world.rows ≡ ptcp_rows seed plant bundles tree first.sync.send (timeouts_of bundles) cycles

abbrev pub AreRowsBy : Clocks → Plant → List Bundle → ℕ → ℕ → World → Type 0
AreRowsBy clocks.World plant bundles seed cycles world = world.rows ≡ seeded_rows seed plant bundles cycles
AreRowsBy clocks.Ptcp plant bundles seed cycles world = IsPtcpWorld plant bundles seed cycles world

-- It has so many cycles, is as the plant's clocks say, and all its rows are in range.
pub record IsSeedWorld (plant : Plant) (bundles : List Bundle) (seed cycles : ℕ) (world : World) : Type 0 where
  pub rows : AreRowsBy plant.clocks plant bundles seed cycles world
  pub fits : Fits plant bundles world
