-- The stations of a plant, cycle by cycle.
use Rattle.std.specs.Prelude.{◌≡◌, ℕ, ◌<◌, List, length, Some, IsSome, slice_get, All, Contains}
use Rattle.irt_base.specs.declared.blocks.Bundle.{Bundle}
use Rattle.irt_base.specs.declared.blocks.Entry.{Entry}
use Rattle.irt_base.specs.declared.plants.App.{App}
use Rattle.irt_base.specs.declared.plants.Plant.{Plant}
use Rattle.iso_rules.specs.Image.{IsImage, loaded_words}
use Rattle.iso_rules.specs.Station.{consumed_of, input_count}
use Rattle.iso_station.specs.Consumer.{ConsumerState}
use Rattle.iso_station.specs.Cycles.{came_by, consumer_after}
use Rattle.plan_rules.specs.Once.{HasToReach}
use Rattle.plan_rules.specs.Plan.{setup_of}
use Rattle.plan_rules.specs.Way.{Setup}
use Rattle.plan_rules.specs.World.{WorldRow}
use Rattle.rtc3_frame.specs.Frame.{Fields}

pub record StationsState : Type 0 where
  pub plant : Plant
  pub bundles : List Bundle
  -- by app, the consumer of its device
  pub consumers : List ConsumerState
  -- by demand, the bytes of its frame
  pub frames : List (List ℕ)

-- the plant and the frame blocks
abbrev pub setup_in : StationsState → Setup
setup_in s = setup_of s.plant s.bundles

-- The cycle that goes on is this one.
abbrev pub AreInCycle : ℕ → StationsState → Type 0
AreInCycle k s = All (λ (c : ConsumerState). c.cycle ≡ k) s.consumers

-- The words of a frame came to a device in a cycle exactly where it has to reach the device, and are those loaded.
pub record HasArrived (setup : Setup) (world : List WorldRow) (taken : ℕ → ℕ → List ℕ) (device k : ℕ) (fs : List Fields) (e : Entry) : Type 0 where
  pub each : HasToReach setup world k device e.frame.0 → came_by e fs ≡ Some (loaded_words setup taken k e.frame.0)
  pub only : IsSome (came_by e fs) → HasToReach setup world k device e.frame.0

-- A device's consumer after so many cycles, in each of which it took what reached the device.
pub record HasTaken (plant : Plant) (bundles : List Bundle) (world : List WorldRow) (taken : ℕ → ℕ → List ℕ) (done device : ℕ)
    (c : ConsumerState) : Type 0 where
  pub bundle : Bundle
  pub held : slice_get bundles device ≡ Some bundle
  pub frames : ℕ → List Fields
  pub state : c ≡ consumer_after bundle frames done
  pub arrived : (k : ℕ) (e : Entry) → k < done → Contains (consumed_of bundle.frames.entries) e →
      HasArrived (setup_of plant bundles) world taken device k (frames k) e

-- All consumers are so.
pub record HavePlayed (world : List WorldRow) (taken : ℕ → ℕ → List ℕ) (done : ℕ) (s : StationsState) : Type 0 where
  pub count : length s.consumers ≡ length s.plant.apps
  pub each : (n : ℕ) (app : App) (c : ConsumerState) → slice_get s.plant.apps n ≡ Some app → slice_get s.consumers n ≡ Some c →
      HasTaken s.plant s.bundles world taken done app.device.0 c

-- images by app, each with as many words as its device's frames have
pub record AreImages (plant : Plant) (setup : Setup) (images : List (List ℕ)) : Type 0 where
  pub count : length images ≡ length plant.apps
  pub each : (n : ℕ) (app : App) (image : List ℕ) → slice_get plant.apps n ≡ Some app → slice_get images n ≡ Some image →
      length image ≡ input_count setup app.device.0

-- the images after cycle k
pub record AreTrueImages (setup : Setup) (world : List WorldRow) (taken : ℕ → ℕ → List ℕ) (k : ℕ) (images : List (List ℕ)) : Type 0 where
  pub count : length images ≡ length setup.plant.apps
  pub each : (n : ℕ) (app : App) (image : List ℕ) → slice_get setup.plant.apps n ≡ Some app → slice_get images n ≡ Some image →
      IsImage setup world taken app.device.0 k image
