-- The definitions computed on one line of three devices: the middle one is relative and sends two frames on, 1000 to
-- 3000 ns after they came.
use Rattle.std.proofs.Common.{◌≡◌, ℕ, List, [], ◌∷◌, Some, refl, replicate, Bool, true, false}
use Rattle.std.specs.Prelude.{pos, negsuc}
use Rattle.irt_base.specs.declared.blocks.Bundle.{Bundle}
use Rattle.irt_base.specs.declared.blocks.Entry.{Entry}
use Rattle.irt_base.specs.declared.plants.Clocks.TheVariants as clocks
use Rattle.irt_base.specs.declared.plants.Device.{Device}
use Rattle.irt_base.specs.declared.plants.Mode.{Mode}
use Rattle.irt_base.specs.declared.plants.Mode.TheVariants as modes
use Rattle.irt_base.specs.declared.plants.Plant.{Plant}
use Rattle.irt_world.specs.Forwardings.{forwardings, number_in}
use Rattle.irt_world.specs.Rows.{bridge_in, error_in, is_cut_in}
use Rattle.irt_world.specs.declared.rows.Row.{Row}

abbrev device : ℕ → Mode → ℕ → Device
device letter mode count =
    record { name = letter ∷ []; mode = mode; bmin = 1000; bmax = 3000; ports = replicate count (record { tx = 100; rx = 200 }) }

abbrev line : Plant
line = record {
  factor = 32;
  window = 1000;
  red_max = 250000;
  orange = 0;
  clocks = clocks.World;
  sync = record { send = 32; timeout = 6; drift = 0; stamp = 0; loss = 0 };
  devices = device 97 modes.Absolute 1 ∷ device 98 modes.Relative 2 ∷ device 99 modes.Absolute 1 ∷ [];
  links = [];
  demands = [];
  traffic = [];
  apps = [];
}

abbrev entry : ℕ → ℕ → ℕ → Entry
entry frame rx_port tx =
    record { send_offset = 0; data_length = 40; ratio = 1; phase = 1; frame = record { 0 = frame }; rx_port = rx_port; tx = tx }

abbrev bundle : Bool → List Entry → Bundle
bundle relative entries = record {
  sync = record {
    subdomain = replicate 16 0;
    window = 1000;
    send = 32;
    factor = 32;
    timeout = 6;
    takeover = 6;
    startup = 0;
    properties = 0;
    priority1 = 0;
    priority2 = 0;
    name = 97 ∷ [];
  };
  slot = 0;
  subslot = 0x8000;
  global = record { uuid = replicate 16 0; bridge = 3000; ports = [] };
  frames = record { relative = relative; entries = entries };
  periods = record { first = 0x100; last = 0xfff; ports = [] };
}

abbrev bundles : List Bundle
bundles =
    bundle false (entry 0x100 0 2 ∷ entry 0x101 0 2 ∷ []) ∷ bundle true (entry 0x100 1 4 ∷ entry 0x101 1 4 ∷ [])
    ∷ bundle false (entry 0x100 1 1 ∷ entry 0x101 1 1 ∷ []) ∷ []

-- `E 1000 0 -1000 B 3000 1000 C`
abbrev row : Row
row = record { errors = pos 1000 ∷ pos 0 ∷ negsuc 999 ∷ []; bridges = 3000 ∷ 1000 ∷ []; cuts = [] }

second_number : number_in (forwardings line bundles) 1 0x101 ≡ Some 1
second_number = refl

first_delay : bridge_in line bundles row 1 0x100 ≡ 3000
first_delay = refl

second_delay : bridge_in line bundles row 1 0x101 ≡ 1000
second_delay = refl

last_error : error_in row 2 ≡ negsuc 999
last_error = refl

nothing_cut : is_cut_in row 0 ≡ false
nothing_cut = refl
