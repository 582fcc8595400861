-- A plan: a plant and one bundle of blocks per device.
use Rattle.std.specs.Prelude.{◌≡◌, List, All, map, length}
use Rattle.irt_base.specs.Valid.{IsBundle}
use Rattle.irt_base.specs.declared.blocks.Bundle.{Bundle}
use Rattle.irt_base.specs.declared.plants.Plant.{Plant}
use Rattle.plant_rules.specs.Meets.{MeetsRules}
use Rattle.plan_rules.specs.Way.{Setup}

-- the plant and the frame blocks of its devices
abbrev pub setup_of : Plant → List Bundle → Setup
setup_of plant bundles = record { plant = plant; blocks = map (λ (b : Bundle). b.frames) bundles }

-- A plant that meets its rules, and valid blocks, one bundle per device.
pub record IsPlan (plant : Plant) (bundles : List Bundle) : Type 0 where
  pub rules : MeetsRules plant
  pub blocks : All IsBundle bundles
  pub count : length bundles ≡ length plant.devices
