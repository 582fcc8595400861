-- The ways of all entries, as tables.
use Rattle.std.specs.Prelude.{◌≡◌, ℕ, ◌+◌, ◌^◌, ◌<◌, ◌≤◌, List, Some, length, slice_get}
use Rattle.irt_base.specs.Wiring.{hop_of}
use Rattle.irt_base.specs.declared.blocks.Bundle.{Bundle}
use Rattle.irt_base.specs.declared.blocks.Entry.{Entry}
use Rattle.irt_base.specs.declared.plants.Plant.{Plant}
use Rattle.plan_rules.specs.Way.{Setup, IsParent}
use Rattle.plan_rules.specs.SendWindow.{SendWindow, HasWindow}
use Rattle.plan_rules.specs.Plan.{setup_of}
use Rattle.plan_rules.specs.declared.way.Way.{Way}

-- when a device sends, by its way
abbrev pub window_of : Way → SendWindow
window_of way = record { lo = way.lo; hi = way.hi; anchor = way.anchor.0 }

-- The frame comes from the parent that the way names, a hop after the parent's window.
pub record IsComing (setup : Setup) (device : ℕ) (e : Entry) (way : Way) : Type 0 where
  pub hop : ℕ
  pub window : SendWindow
  pub comes : IsParent setup e.frame.0 device e way.parent.0 way.port.0
  pub hops : hop_of setup.plant way.parent.0 way.port.0 ≡ Some hop
  pub sends : HasWindow setup e.frame.0 way.parent.0 window
  pub earliest : way.earliest ≡ window.lo + hop
  pub latest : way.latest ≡ window.hi + hop

pub record IsWay (setup : Setup) (device : ℕ) (e : Entry) (way : Way) : Type 0 where
  pub sends : HasWindow setup e.frame.0 device (window_of way)
  pub coming : 1 ≤ e.rx_port → IsComing setup device e way
  pub provided : e.rx_port ≡ 0 → way.port.0 ≡ 0
  pub ordered : way.lo ≤ way.hi
  pub small : way.hi < 2 ^ 39
  pub small_latest : way.latest < 2 ^ 39

-- the ways of a device's entries, in their order
pub record AreWaysOf (setup : Setup) (device : ℕ) (entries : List Entry) (ways : List Way) : Type 0 where
  pub count : length ways ≡ length entries
  pub each : (n : ℕ) (e : Entry) (way : Way) → slice_get entries n ≡ Some e → slice_get ways n ≡ Some way → IsWay setup device e way

-- the ways of all devices' entries
pub record AreWays (plant : Plant) (bundles : List Bundle) (ways : List (List Way)) : Type 0 where
  pub count : length ways ≡ length bundles
  pub each : (device : ℕ) (b : Bundle) (row : List Way) → slice_get bundles device ≡ Some b → slice_get ways device ≡ Some row →
      AreWaysOf (setup_of plant bundles) device b.frames.entries row
