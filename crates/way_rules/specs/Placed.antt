-- What a rule of an entry may rest on.
use Rattle.std.specs.Prelude.{◌≡◌, ℕ, ◌<◌, List, Some, length, slice_get}
use Rattle.irt_base.specs.Valid.{IsEntry}
use Rattle.irt_base.specs.declared.blocks.Bundle.{Bundle}
use Rattle.irt_base.specs.declared.blocks.Entry.{Entry}
use Rattle.irt_base.specs.declared.plants.Plant.{Plant}
use Rattle.plan_rules.specs.Way.{entry_at}
use Rattle.plan_rules.specs.Plan.{IsPlan, setup_of}
use Rattle.plan_rules.specs.Ways.{IsWay, AreWays}
use Rattle.plan_rules.specs.declared.way.Way.{Way}

-- a plan, and the ways of its entries
pub record IsWayPlan (plant : Plant) (bundles : List Bundle) (rows : List (List Way)) : Type 0 where
  pub plan : IsPlan plant bundles
  pub ways : AreWays plant bundles rows

-- an entry of a device, and its way
pub record IsPlaced (plant : Plant) (bundles : List Bundle) (device : ℕ) (e : Entry) (w : Way) : Type 0 where
  pub plan : IsPlan plant bundles
  pub there : device < length bundles
  pub stands : entry_at (setup_of plant bundles) device e.frame.0 ≡ Some e
  pub valid : IsEntry e
  pub way : IsWay (setup_of plant bundles) device e w

-- the entries and the ways of a device
pub record IsRow (bundles : List Bundle) (ways : List (List Way)) (device : ℕ) (entries : List Entry) (own : List Way) : Type 0 where
  pub b : Bundle
  pub held : slice_get bundles device ≡ Some b
  pub rows : slice_get ways device ≡ Some own
  pub is : b.frames.entries ≡ entries
