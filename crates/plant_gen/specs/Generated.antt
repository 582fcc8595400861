-- The plant that a seed makes: a tree of devices with six links down each, and frames between any two of them.
use Rattle.std.specs.Prelude.{ℕ, ◌+◌, ◌-◌, ◌*◌, ◌/◌, ◌%◌, ◌^◌, ◌==◌, if◌then◌else◌, [], ◌∷◌, ◌++◌, map, codes, decimal}
use Rattle.std.specs.List.{range_with_len}
use Rattle.std.specs.Prelude.{replicate}
use Rattle.irt_base.specs.Cycle.{cycle_time}
use Rattle.irt_base.specs.declared.limits.TheConstants.{MIN_DATA, DATA_STEP, MIN_FRAME}
use Rattle.irt_base.specs.declared.plants.Clocks.TheVariants.{World}
use Rattle.irt_base.specs.declared.plants.Mode.{Mode}
use Rattle.irt_base.specs.declared.plants.Mode.TheVariants.{Absolute, Relative}
use Rattle.irt_base.specs.declared.plants.Device.{Device}
use Rattle.irt_base.specs.declared.plants.Link.{Link}
use Rattle.irt_base.specs.declared.plants.Demand.{Demand}
use Rattle.irt_base.specs.declared.plants.Plant.{Plant}
use Rattle.plant_gen.specs.declared.TheConstants.{FACTOR, WINDOW, RED_MAX, BMIN, BMAX, PORTS, TX_DELAY, RX_DELAY, LINK_DELAY, DOWN_LINKS, SEND, TIMEOUT}
use Rattle.seed_draws.specs.Draws.{draw_of}

-- one device in four forwards in relative time
abbrev pub generated_mode : ℕ → ℕ → Mode
generated_mode seed device = if draw_of seed 1 device 0 % 4 == 0 then Relative else Absolute

-- a device: `d0`, `d1` ..
abbrev pub generated_device : ℕ → ℕ → Device
generated_device seed device = record {
  name = codes "d" ++ decimal device;
  mode = generated_mode seed device;
  bmin = BMIN;
  bmax = BMAX;
  ports = replicate PORTS (record { tx = TX_DELAY; rx = RX_DELAY });
}

-- The link from a device, from 1, up to its parent: device 7's is from port 2 of device 1.
abbrev pub generated_link : ℕ → ℕ → Link
generated_link seed device = record {
  a = record { 0 = (device - 1) / DOWN_LINKS };
  a_port = record { 0 = 2 + (device - 1) % DOWN_LINKS };
  b = record { 0 = device };
  b_port = record { 0 = 1 };
  delay = LINK_DELAY + draw_of seed 2 device 0 % LINK_DELAY;
}

abbrev pub generated_provider : ℕ → ℕ → ℕ → ℕ
generated_provider seed devices number = draw_of seed 3 number 0 % devices

-- another device than the provider
abbrev pub generated_consumer : ℕ → ℕ → ℕ → ℕ
generated_consumer seed devices number =
    (generated_provider seed devices number + 1 + draw_of seed 3 number 1 % (devices - 1)) % devices

-- in ns: 1, 2, 4 or 8 cycles
abbrev pub generated_update : ℕ → ℕ → ℕ
generated_update seed number = cycle_time FACTOR * 2 ^ (draw_of seed 3 number 3 % 4)

-- a frame: 40 to 64 bytes, every 1, 2, 4 or 8 cycles
abbrev pub generated_demand : ℕ → ℕ → ℕ → Demand
generated_demand seed devices number = record {
  frame = record { 0 = MIN_FRAME + number };
  provider = record { 0 = generated_provider seed devices number };
  consumers = record { 0 = generated_consumer seed devices number } ∷ [];
  length = MIN_DATA + DATA_STEP * (draw_of seed 3 number 2 % 4);
  update = generated_update seed number;
}

-- the plant of a seed with so many devices and frames
abbrev pub generated_plant : ℕ → ℕ → ℕ → Plant
generated_plant seed devices frames = record {
  factor = FACTOR;
  window = WINDOW;
  red_max = RED_MAX;
  orange = 0;
  clocks = World;
  sync = record { send = SEND; timeout = TIMEOUT; drift = 0; stamp = 0; loss = 0 };
  devices = map (generated_device seed) (range_with_len 0 devices);
  links = map (generated_link seed) (range_with_len 1 (devices - 1));
  demands = map (generated_demand seed devices) (range_with_len 0 frames);
  traffic = [];
  apps = [];
}
