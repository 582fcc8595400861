-- What the file of a plant says.
use Rattle.std.specs.Prelude.{ℕ, List, [], ◌∷◌, map, slice_get}
use Rattle.std.specs.Option.{option_map_or}
use Rattle.irt_base.specs.declared.numbers.DevId.{DevId}
use Rattle.irt_base.specs.declared.blocks.PortDelay.{PortDelay}
use Rattle.irt_base.specs.declared.plants.SyncPlan.{SyncPlan}
use Rattle.irt_base.specs.declared.plants.Device.{Device}
use Rattle.irt_base.specs.declared.plants.Link.{Link}
use Rattle.irt_base.specs.declared.plants.Demand.{Demand}
use Rattle.irt_base.specs.declared.plants.Traffic.{Traffic}
use Rattle.irt_base.specs.declared.plants.App.{App}
use Rattle.irt_base.specs.declared.plants.Plant.{Plant}
use Rattle.plant_shape.specs.declared.raw.RawSync.{RawSync}
use Rattle.plant_shape.specs.declared.raw.RawDevice.{RawDevice}
use Rattle.plant_shape.specs.declared.raw.RawLink.{RawLink}
use Rattle.plant_shape.specs.declared.raw.RawDemand.{RawDemand}
use Rattle.plant_shape.specs.declared.raw.RawTraffic.{RawTraffic}
use Rattle.plant_shape.specs.declared.raw.RawApp.{RawApp}
use Rattle.plant_shape.specs.declared.raw.RawPlant.{RawPlant}

-- the name of a device
abbrev pub name_at : List Device → DevId → List ℕ
name_at devices device = option_map_or (λ (d : Device). d.name) (slice_get devices device.0) []

abbrev pub printed_port : PortDelay → List ℕ
printed_port p = p.tx ∷ p.rx ∷ []

abbrev pub printed_sync : SyncPlan → RawSync
printed_sync s = record { send = s.send; timeout = s.timeout; drift = s.drift; stamp = s.stamp; loss = s.loss }

abbrev pub printed_device : Device → RawDevice
printed_device d = record { name = d.name; mode = d.mode; bmin = d.bmin; bmax = d.bmax; ports = map printed_port d.ports }

abbrev pub printed_link : List Device → Link → RawLink
printed_link devices l = record {
  from = name_at devices l.a;
  from_port = l.a_port.0;
  to = name_at devices l.b;
  to_port = l.b_port.0;
  delay = l.delay;
}

abbrev pub printed_demand : List Device → Demand → RawDemand
printed_demand devices d = record {
  frame = d.frame.0;
  from = name_at devices d.provider;
  to = map (name_at devices) d.consumers;
  length = d.length;
  update = d.update;
}

abbrev pub printed_traffic : List Device → Traffic → RawTraffic
printed_traffic devices t = record {
  from = name_at devices t.source;
  to = name_at devices t.target;
  class = t.class;
  length = t.length;
  every = t.every;
  count = t.count;
}

abbrev pub printed_app : List Device → App → RawApp
printed_app devices a = record { device = name_at devices a.device; kind = a.kind; param = a.param }

abbrev pub printed_plant : Plant → RawPlant
printed_plant p = record {
  factor = p.factor;
  window = p.window;
  red_max = p.red_max;
  orange = p.orange;
  clocks = p.clocks;
  sync = printed_sync p.sync;
  devices = map printed_device p.devices;
  links = map (printed_link p.devices) p.links;
  demands = map (printed_demand p.devices) p.demands;
  traffic = map (printed_traffic p.devices) p.traffic;
  apps = map (printed_app p.devices) p.apps;
}
