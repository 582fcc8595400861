-- What holds of the stations of a plant.
use Rattle.std.specs.Prelude.{◌≡◌, ℕ, ◌+◌, ◌==◌, List, length, map, Some, slice_get}
use Rattle.std.specs.List.{position_or_len}
use Rattle.irt_base.specs.declared.blocks.Bundle.{Bundle}
use Rattle.irt_base.specs.declared.blocks.Entry.{Entry}
use Rattle.irt_base.specs.declared.plants.App.{App}
use Rattle.irt_base.specs.declared.plants.Demand.{Demand}
use Rattle.irt_base.specs.declared.plants.Plant.{Plant}
use Rattle.iso_rules.specs.Station.{consumed_of, provided_of}
use Rattle.iso_station.specs.Consumer.{ConsumerState, new_consumer}
use Rattle.iso_station.specs.Held.{Held}
use Rattle.iso_station.specs.Provider.{new_provider}
use Rattle.plan_rules.specs.Places.{IsAccepted}
use Rattle.plan_rules.specs.Plan.{IsPlan}
use Rattle.rtc3_frame.specs.declared.frame.TheConstants.{HEAD, TAIL}
use Rattle.plant_stations.specs.declared.sender.Sender.{Sender}

-- There is room for the frame of each demand.
pub record HaveRoom (demands : List Demand) (frames : List (List ℕ)) : Type 0 where
  pub count : length frames ≡ length demands
  pub each : (number : ℕ) (d : Demand) (bytes : List ℕ) → slice_get demands number ≡ Some d → slice_get frames number ≡ Some bytes →
      length bytes ≡ d.length + (HEAD + TAIL)

-- the number of the first demand of an entry's frame, and of demands where there is none
abbrev pub place_in : List Demand → Entry → ℕ
place_in demands e = position_or_len (λ (d : Demand). d.frame.0 == e.frame.0) demands

-- the sender of a device
abbrev pub sender_of : Plant → Bundle → ℕ → Sender
sender_of plant bundle device = record {
  provider = new_provider bundle device;
  places = map (place_in plant.demands) (provided_of bundle.frames.entries);
}

-- the senders of all devices
pub record AreSenders (plant : Plant) (bundles : List Bundle) (senders : List Sender) : Type 0 where
  pub count : length senders ≡ length bundles
  pub each : (device : ℕ) (bundle : Bundle) (s : Sender) → slice_get bundles device ≡ Some bundle → slice_get senders device ≡ Some s →
      s ≡ sender_of plant bundle device

-- the consumers of apps, of which nothing came yet
pub record AreNewConsumers (apps : List App) (bundles : List Bundle) (consumers : List ConsumerState) : Type 0 where
  pub count : length consumers ≡ length apps
  pub each : (n : ℕ) (app : App) (bundle : Bundle) (c : ConsumerState) → slice_get apps n ≡ Some app →
      slice_get bundles app.device.0 ≡ Some bundle → slice_get consumers n ≡ Some c → c ≡ new_consumer bundle

-- a consumer of the frames that a device consumes by these blocks
pub record IsConsumerOf (bundle : Bundle) (c : ConsumerState) : Type 0 where
  pub factor : c.factor ≡ bundle.sync.factor
  pub entries : map (λ (held : Held). held.entry) c.frames ≡ consumed_of bundle.frames.entries

-- the consumers of all apps
pub record AreConsumers (plant : Plant) (bundles : List Bundle) (consumers : List ConsumerState) : Type 0 where
  pub count : length consumers ≡ length plant.apps
  pub each : (n : ℕ) (app : App) (bundle : Bundle) (c : ConsumerState) → slice_get plant.apps n ≡ Some app →
      slice_get bundles app.device.0 ≡ Some bundle → slice_get consumers n ≡ Some c → IsConsumerOf bundle c

-- the stations of an accepted plan
pub record AreStations (plant : Plant) (bundles : List Bundle) (senders : List Sender) (consumers : List ConsumerState)
    (frames : List (List ℕ)) : Type 0 where
  pub plan : IsPlan plant bundles
  pub accepted : IsAccepted plant bundles
  pub provide : AreSenders plant bundles senders
  pub consume : AreConsumers plant bundles consumers
  pub room : HaveRoom plant.demands frames
