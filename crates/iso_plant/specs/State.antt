-- What holds of the parts of a plant between two cycles.
use Rattle.std.specs.Prelude.{◌≡◌, ℕ, ◌-◌, ◌≤◌, List, map, length, replicate, Some, slice_get}
use Rattle.io_buffers.specs.Given.{Given}
use Rattle.irt_base.specs.declared.limits.TheConstants.{MAX_CYCLES}
use Rattle.irt_base.specs.declared.plants.App.{App}
use Rattle.irt_net.specs.Net.{Carries, HasRoomFor, NetState}
use Rattle.irt_world.specs.Rows.{Fits, world_rows}
use Rattle.irt_world.specs.declared.rows.World.{World}
use Rattle.iso_rules.specs.Lockstep.{words_taken}
use Rattle.iso_rules.specs.Station.{input_count, output_count}
use Rattle.parcel_rules.specs.Cycle.{loads_at}
use Rattle.parcel_rules.specs.Loads.{Loads}
use Rattle.plan_rules.specs.Places.{IsAccepted}
use Rattle.plan_rules.specs.Plan.{IsPlan}
use Rattle.plan_rules.specs.Way.{Setup}
use Rattle.plan_rules.specs.World.{WorldRow}
use Rattle.plant_stations.specs.Loaded.{HaveWidths}
use Rattle.plant_stations.specs.Stations.{AreImages, AreInCycle, HavePlayed, StationsState}
use Rattle.run_journal.specs.Written.{Written}
use Rattle.iso_plant.specs.Exchanged.{HasNoApp}
use Rattle.iso_plant.specs.History.{AppCycles}
use Rattle.iso_plant.specs.Played.{AreStationsOf, net_setup}
use Rattle.iso_plant.specs.Replay.{IsReplay, PlantView}

pub record Parts : Type 0 where
  pub net : NetState
  pub stations : StationsState
  pub world : World
  pub journal : Written
  -- how many cycles are done
  pub done : ℕ
  pub apps : List App
  -- by app
  pub histories : List AppCycles
  -- by device, what it sent last
  pub outputs : List (List ℕ)
  -- by app, what was published last
  pub images : List (List ℕ)

abbrev pub takes_in : List AppCycles → List (List Given)
takes_in histories = map (λ (a : AppCycles). a.takes) histories

abbrev pub images_in : List AppCycles → List (List (List ℕ))
images_in histories = map (λ (a : AppCycles). a.images) histories

-- what clauses see of it
abbrev pub view_of : Parts → PlantView
view_of p = record {
  plant = p.net.plant;
  bundles = p.net.bundles;
  walks = p.net.walks;
  world = p.world;
  done = p.done;
  takes = takes_in p.histories;
  images = images_in p.histories;
  rows = p.journal.rows;
}

abbrev pub rows_of : Parts → List WorldRow
rows_of p = world_rows p.net.plant p.net.bundles p.world

-- where the rules have the parcels
abbrev pub loads_of : Parts → Loads
loads_of p = loads_at p.net.plant p.net.bundles p.net.walks (rows_of p) p.done

-- An app's history has room for the cycles that are left, and the widths of the app's device.
pub record IsHistoryOf (setup : Setup) (left : ℕ) (app : App) (a : AppCycles) : Type 0 where
  pub take_room : a.take_room ≡ left
  pub image_room : a.image_room ≡ left
  pub output_words : a.output_words ≡ output_count setup app.device.0
  pub input_words : a.input_words ≡ input_count setup app.device.0

-- Devices without app send zeros.
abbrev pub AreIdle : Setup → List App → List (List ℕ) → Type 0
AreIdle setup apps outputs = (device : ℕ) (words : List ℕ) → HasNoApp apps device → slice_get outputs device ≡ Some words →
    words ≡ replicate (output_count setup device) 0

-- an accepted plan over a world
pub record IsPlanned (p : Parts) : Type 0 where
  pub plan : IsPlan p.net.plant p.net.bundles
  pub accepted : IsAccepted p.net.plant p.net.bundles
  pub stations : AreStationsOf p.net p.stations
  pub apps : p.apps ≡ p.net.plant.apps
  pub fits : Fits p.net.plant p.net.bundles p.world
  pub cycles : length p.world.rows ≤ MAX_CYCLES

-- The network and the stations have played the cycles that are done, and there is room for all that are left.
pub record IsState (p : Parts) : Type 0 where
  pub planned : IsPlanned p
  pub replay : IsReplay (view_of p)
  pub carries : Carries p.net (loads_of p)
  pub played : HavePlayed (rows_of p) (words_taken (takes_in p.histories)) p.done p.stations
  pub cycle : AreInCycle p.done p.stations
  pub room : HasRoomFor p.net (length p.world.rows - p.done) p.journal.room
  pub histories : (n : ℕ) (app : App) (a : AppCycles) → slice_get p.apps n ≡ Some app → slice_get p.histories n ≡ Some a →
      IsHistoryOf (net_setup p.net) (length p.world.rows - p.done) app a
  pub widths : HaveWidths (net_setup p.net) p.outputs
  pub idle : AreIdle (net_setup p.net) p.apps p.outputs
  pub images : AreImages p.net.plant (net_setup p.net) p.images
