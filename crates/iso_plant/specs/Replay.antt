-- The state of a plant that runs, as the replay of its history.
use Rattle.std.specs.Prelude.{◌≡◌, ℕ, ◌<◌, ◌≤◌, List, [], length, Some, slice_get, slice_index_or}
use Rattle.cycle_rows.specs.Journal.{IsJournal}
use Rattle.cycle_rows.specs.declared.rows.JournalRow.{JournalRow}
use Rattle.io_buffers.specs.Given.{Given}
use Rattle.irt_base.specs.declared.blocks.Bundle.{Bundle}
use Rattle.irt_base.specs.declared.numbers.PortNo.{PortNo}
use Rattle.irt_base.specs.declared.plants.App.{App}
use Rattle.irt_base.specs.declared.plants.Plant.{Plant}
use Rattle.irt_world.specs.Rows.{world_rows}
use Rattle.irt_world.specs.declared.rows.World.{World}
use Rattle.iso_rules.specs.Image.{IsImage}
use Rattle.iso_rules.specs.Lockstep.{words_taken}
use Rattle.parcel_rules.specs.Rows.{parcel_rows}
use Rattle.plan_rules.specs.Plan.{setup_of}
use Rattle.plan_rules.specs.Way.{Setup}
use Rattle.plan_rules.specs.World.{WorldRow}

pub record PlantView : Type 0 where
  pub plant : Plant
  pub bundles : List Bundle
  -- of each traffic entry its walk
  pub walks : List (List PortNo)
  pub world : World
  -- how many cycles are done
  pub done : ℕ
  -- by app, what was taken from its output in each cycle, and what was published to its input
  pub takes : List (List Given)
  pub images : List (List (List ℕ))
  -- the journal
  pub rows : List JournalRow

abbrev pub setup_in : PlantView → Setup
setup_in v = setup_of v.plant v.bundles

abbrev pub world_in : PlantView → List WorldRow
world_in v = world_rows v.plant v.bundles v.world

-- what was taken from an app, and what was published to it, by cycle
abbrev pub takes_of : ℕ → PlantView → List Given
takes_of app v = slice_index_or v.takes app []

abbrev pub images_of : ℕ → PlantView → List (List ℕ)
images_of app v = slice_index_or v.images app []

-- one take and one image of each app for each cycle done
pub record HasAllCycles (v : PlantView) : Type 0 where
  pub takes : length v.takes ≡ length v.plant.apps
  pub images : length v.images ≡ length v.plant.apps
  pub taken : (app : ℕ) → app < length v.plant.apps → length (takes_of app v) ≡ v.done
  pub published : (app : ℕ) → app < length v.plant.apps → length (images_of app v) ≡ v.done

-- The images are those of the apps' devices over what was taken, and the journal is that of the cycles done.
pub record IsReplay (v : PlantView) : Type 0 where
  pub within : v.done ≤ length v.world.rows
  pub cycles : HasAllCycles v
  pub images : (n k : ℕ) (app : App) (image : List ℕ) → slice_get v.plant.apps n ≡ Some app → slice_get (images_of n v) k ≡ Some image →
      IsImage (setup_in v) (world_in v) (words_taken v.takes) app.device.0 k image
  pub journal : IsJournal (setup_in v) (world_in v) (parcel_rows v.plant v.bundles v.walks (world_in v)) v.done v.rows
