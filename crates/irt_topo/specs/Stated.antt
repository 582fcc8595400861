-- The plant that a plant file states: names become device numbers, and numbers take the fields of a plant.
-- A number that its field does not hold, a name that no device has, and an entry of `ports` that is no
-- pair become the greatest number of the field. Each breaks the rule of that field, as that number does.
use Rattle.std.specs.Prelude.{ℕ, ◌-◌, ◌^◌, min, List, [], ◌∷◌, map, unwrap_or, bytes_eq}
use Rattle.std.specs.List.{position_from}
use Rattle.irt_base.specs.declared.numbers.DevId.{DevId}
use Rattle.irt_base.specs.declared.numbers.PortNo.{PortNo}
use Rattle.irt_base.specs.declared.blocks.PortDelay.{PortDelay}
use Rattle.irt_base.specs.declared.plants.SyncPlan.{SyncPlan}
use Rattle.irt_base.specs.declared.plants.Device.{Device}
use Rattle.irt_base.specs.declared.plants.Link.{Link}
use Rattle.irt_base.specs.declared.plants.Demand.{Demand}
use Rattle.irt_base.specs.declared.plants.Traffic.{Traffic}
use Rattle.irt_base.specs.declared.plants.App.{App}
use Rattle.irt_base.specs.declared.plants.Plant.{Plant}
use Rattle.plant_shape.specs.declared.raw.RawSync.{RawSync}
use Rattle.plant_shape.specs.declared.raw.RawDevice.{RawDevice}
use Rattle.plant_shape.specs.declared.raw.RawLink.{RawLink}
use Rattle.plant_shape.specs.declared.raw.RawDemand.{RawDemand}
use Rattle.plant_shape.specs.declared.raw.RawTraffic.{RawTraffic}
use Rattle.plant_shape.specs.declared.raw.RawApp.{RawApp}
use Rattle.plant_shape.specs.declared.raw.RawPlant.{RawPlant}

-- a number in a field of 8 bits, and of 16
abbrev pub in_byte : ℕ → ℕ
in_byte n = min n 255

abbrev pub in_two_bytes : ℕ → ℕ
in_two_bytes n = min n 65535

-- the first device of a name, or 255 where there is none below
abbrev pub device_number : List RawDevice → List ℕ → ℕ
device_number devices name =
    in_byte (unwrap_or (position_from (λ (d : RawDevice). bytes_eq d.name name) 0 devices) 255)

abbrev pub stated_device_id : List RawDevice → List ℕ → DevId
stated_device_id devices name = record { 0 = device_number devices name }

abbrev pub stated_port_no : ℕ → PortNo
stated_port_no n = record { 0 = in_byte n }

-- an entry of `ports`
abbrev pub stated_port : List ℕ → PortDelay
stated_port (tx ∷ rx ∷ []) = record { tx = tx; rx = rx }
stated_port _ = record { tx = 2 ^ 32 - 1; rx = 2 ^ 32 - 1 }

abbrev pub stated_sync : RawSync → SyncPlan
stated_sync s = record { send = s.send; timeout = in_two_bytes s.timeout; drift = s.drift; stamp = s.stamp; loss = s.loss }

abbrev pub stated_device : RawDevice → Device
stated_device d = record { name = d.name; mode = d.mode; bmin = d.bmin; bmax = d.bmax; ports = map stated_port d.ports }

abbrev pub stated_link : List RawDevice → RawLink → Link
stated_link devices l = record {
  a = stated_device_id devices l.from;
  a_port = stated_port_no l.from_port;
  b = stated_device_id devices l.to;
  b_port = stated_port_no l.to_port;
  delay = l.delay;
}

abbrev pub stated_demand : List RawDevice → RawDemand → Demand
stated_demand devices d = record {
  frame = record { 0 = in_two_bytes d.frame };
  provider = stated_device_id devices d.from;
  consumers = map (stated_device_id devices) d.to;
  length = in_two_bytes d.length;
  update = d.update;
}

abbrev pub stated_traffic : List RawDevice → RawTraffic → Traffic
stated_traffic devices t = record {
  source = stated_device_id devices t.from;
  target = stated_device_id devices t.to;
  class = t.class;
  length = in_two_bytes t.length;
  every = t.every;
  count = in_byte t.count;
}

abbrev pub stated_app : List RawDevice → RawApp → App
stated_app devices a = record { device = stated_device_id devices a.device; kind = a.kind; param = a.param }

-- the plant of these links and demands, and of what else a plant file states
abbrev pub stated_wired : RawPlant → List Link → List Demand → Plant
stated_wired p links demands = record {
  factor = in_byte p.factor;
  window = p.window;
  red_max = p.red_max;
  orange = p.orange;
  clocks = p.clocks;
  sync = stated_sync p.sync;
  devices = map stated_device p.devices;
  links = links;
  demands = demands;
  traffic = map (stated_traffic p.devices) p.traffic;
  apps = map (stated_app p.devices) p.apps;
}

abbrev pub stated_plant : RawPlant → Plant
stated_plant p = stated_wired p (map (stated_link p.devices) p.links) (map (stated_demand p.devices) p.demands)
