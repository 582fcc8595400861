-- What a plant begins with.
use Rattle.std.specs.Prelude.{◌≡◌, ℕ, ◌≤◌, List, [], map, replicate}
use Rattle.irt_base.specs.declared.blocks.Bundle.{Bundle}
use Rattle.irt_base.specs.declared.limits.TheConstants.{MAX_WORDS}
use Rattle.irt_base.specs.declared.numbers.PortNo.{PortNo}
use Rattle.irt_base.specs.declared.plants.App.{App}
use Rattle.irt_base.specs.declared.plants.Plant.{Plant}
use Rattle.irt_net.specs.Net.{Carries, HasRoomFor, NetState}
use Rattle.iso_rules.specs.Station.{input_count, output_count, provided_of, words_in}
use Rattle.parcel_rules.specs.Loads.{no_loads}
use Rattle.plan_rules.specs.Plan.{setup_of}
use Rattle.plan_rules.specs.Way.{Setup}
use Rattle.plan_rules.specs.World.{WorldRow}
use Rattle.plant_stations.specs.Stations.{AreInCycle, HavePlayed, StationsState}
use Rattle.run_journal.specs.Written.{Written}
use Rattle.iso_plant.specs.History.{AppCycles}

-- exchanges can have the words of all devices
pub record HaveFewWords (setup : Setup) : Type 0 where
  pub outputs : (device : ℕ) → output_count setup device ≤ MAX_WORDS
  pub inputs : (device : ℕ) → input_count setup device ≤ MAX_WORDS

-- an app before cycle 0, with room for so many cycles
abbrev pub begun_history : Setup → ℕ → App → AppCycles
begun_history setup cycles app = record {
  takes = [];
  images = [];
  output_words = output_count setup app.device.0;
  input_words = input_count setup app.device.0;
  take_room = cycles;
  image_room = cycles;
}

-- as many zeros as a device's frames take, and as many as an app's input has
abbrev pub zero_output : Bundle → List ℕ
zero_output bundle = replicate (words_in (provided_of bundle.frames.entries)) 0

abbrev pub zero_image : AppCycles → List ℕ
zero_image a = replicate a.input_words 0

-- The network, the stations and the journal of a plan, with room for so many cycles.
pub record AreReady (of : Plant) (blocks : List Bundle) (ways : List (List PortNo)) (cycles : ℕ) (net : NetState) (stations : StationsState)
    (journal : Written) : Type 0 where
  pub plant : net.plant ≡ of
  pub bundles : net.bundles ≡ blocks
  pub walks : net.walks ≡ ways
  pub empty : Carries net no_loads
  pub same : (stations.plant ≡ of) × (stations.bundles ≡ blocks)
  pub begun : (world : List WorldRow) (taken : ℕ → ℕ → List ℕ) → HavePlayed world taken 0 stations
  pub cycle : AreInCycle 0 stations
  pub rows : journal.rows ≡ []
  pub room : HasRoomFor net cycles journal.room

-- What stands by app and by device.
pub record AreBlank (plant : Plant) (bundles : List Bundle) (cycles : ℕ) (users : List App) (logs : List AppCycles) (sent shown : List (List ℕ)) :
    Type 0 where
  pub apps : users ≡ plant.apps
  pub histories : logs ≡ map (begun_history (setup_of plant bundles) cycles) plant.apps
  pub outputs : sent ≡ map zero_output bundles
  pub images : shown ≡ map zero_image logs
