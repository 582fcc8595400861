-- The definitions computed. Devices stand in a line, each linked from its last port to the next one's port 1, and all
-- periods are those of one assignment.
use Rattle.std.proofs.Common.{◌≡◌, ℕ, List, [], ◌∷◌, length, refl, replicate}
use Rattle.std.specs.Prelude.{ℤ, pos, negsuc, Bool, false, ◌==◌, if◌then◌else◌}
use Rattle.irt_base.specs.declared.blocks.Bundle.{Bundle}
use Rattle.irt_base.specs.declared.blocks.Period.{Period}
use Rattle.irt_base.specs.declared.blocks.PortPeriods.{PortPeriods}
use Rattle.irt_base.specs.declared.numbers.DevId.{DevId}
use Rattle.irt_base.specs.declared.numbers.PortNo.{PortNo}
use Rattle.irt_base.specs.declared.plants.Class.TheVariants.{Orange, Green}
use Rattle.irt_base.specs.declared.plants.Clocks.TheVariants as clocks
use Rattle.irt_base.specs.declared.plants.Device.{Device}
use Rattle.irt_base.specs.declared.plants.Link.{Link}
use Rattle.irt_base.specs.declared.plants.Mode.TheVariants as modes
use Rattle.irt_base.specs.declared.plants.Plant.{Plant}
use Rattle.irt_base.specs.declared.plants.Traffic.{Traffic}
use Rattle.plan_rules.specs.World.{WorldRow}
use Rattle.cycle_rows.specs.declared.rows.JournalRow.TheVariants.{Sent, Lost, Came}
use Rattle.parcel_rules.specs.Rows.{parcel_rows}

abbrev device : ℕ → Device
device count = record { name = []; mode = modes.Absolute; bmin = 1000; bmax = 3000; ports = replicate count (record { tx = 100; rx = 200 }) }

abbrev link : ℕ → ℕ → ℕ → ℕ → Link
link a p b q = record { a = record { 0 = a }; a_port = record { 0 = p }; b = record { 0 = b }; b_port = record { 0 = q }; delay = 500 }

abbrev plant_of : ℕ → List Device → List Link → List Traffic → Plant
plant_of factor devices links traffic = record {
  factor = factor;
  window = 1000;
  red_max = 250000;
  orange = 100000;
  clocks = clocks.World;
  sync = record { send = 32; timeout = 6; drift = 0; stamp = 0; loss = 0 };
  devices = devices;
  links = links;
  demands = [];
  traffic = traffic;
  apps = [];
}

abbrev tx : Period
tx = record { red = 0; orange = 6720; green = 106720 }

abbrev port_periods : PortPeriods
port_periods = record { assignments = record { tx = tx; rx = tx } ∷ []; phases = replicate 16 (record { tx = 0; rx = 0 }) }

abbrev bundle : ℕ → ℕ → Bundle
bundle factor count = record {
  sync = record {
    subdomain = [];
    window = 1000;
    send = 32;
    factor = factor;
    timeout = 6;
    takeover = 3;
    startup = 60;
    properties = 1;
    priority1 = 1;
    priority2 = 255;
    name = [];
  };
  slot = 0;
  subslot = 0x8000;
  global = record { uuid = []; bridge = 3000; ports = [] };
  frames = record { relative = false; entries = [] };
  periods = record { first = 0x100; last = 0x6ff; ports = replicate count port_periods };
}

-- clock errors by device, and the one link that is cut
abbrev row : (ℕ → ℤ) → (ℕ → Bool) → WorldRow
row error is_cut = record { error = error; bridge = λ d f. 0; is_cut = is_cut }

abbrev exact : WorldRow
exact = row (λ d. pos 0) (λ n. false)

abbrev port : ℕ → PortNo
port n = record { 0 = n }

abbrev dev : ℕ → DevId
dev n = record { 0 = n }

-- ---- two devices, two green parcels a cycle

abbrev pair : Plant
pair = plant_of 32 (device 1 ∷ device 1 ∷ []) (link 0 1 1 1 ∷ [])
    (record { source = dev 0; target = dev 1; «class» = Green; length = 60; every = 1; count = 2 } ∷ [])

abbrev pair_bundles : List Bundle
pair_bundles = bundle 32 1 ∷ bundle 32 1 ∷ []

abbrev pair_walks : List (List PortNo)
pair_walks = (port 1 ∷ []) ∷ []

first_cycle : parcel_rows pair pair_bundles pair_walks (exact ∷ exact ∷ []) 0 ≡
    Sent 0 (dev 0) (port 1) 0 0 (pos 106720) (pos 113440) ∷ Sent 0 (dev 0) (port 1) 0 1 (pos 113440) (pos 120160) ∷ []
first_cycle = refl

second_cycle : parcel_rows pair pair_bundles pair_walks (exact ∷ exact ∷ []) 1 ≡
    Sent 1 (dev 0) (port 1) 0 2 (pos 1106720) (pos 1113440) ∷ Sent 1 (dev 0) (port 1) 0 3 (pos 1113440) (pos 1120160)
    ∷ Came 1 (dev 1) 0 0 ∷ Came 1 (dev 1) 0 1 ∷ []
second_cycle = refl

-- a cut link
abbrev cut : WorldRow
cut = row (λ d. pos 0) (λ n. n == 0)

first_cut : parcel_rows pair pair_bundles pair_walks (cut ∷ exact ∷ []) 0 ≡
    Sent 0 (dev 0) (port 1) 0 0 (pos 106720) (pos 113440) ∷ Sent 0 (dev 0) (port 1) 0 1 (pos 113440) (pos 120160)
    ∷ Lost 0 (dev 0) (port 1) 0 0 ∷ Lost 0 (dev 0) (port 1) 0 1 ∷ []
first_cut = refl

after_cut : parcel_rows pair pair_bundles pair_walks (cut ∷ exact ∷ []) 1 ≡
    Sent 1 (dev 0) (port 1) 0 2 (pos 1106720) (pos 1113440) ∷ Sent 1 (dev 0) (port 1) 0 3 (pos 1113440) (pos 1120160) ∷ []
after_cut = refl

-- the sender is a microsecond late, the receiver out of step: it sends nothing itself, yet parcels come to it
abbrev off : WorldRow
off = row (λ d. if d == 0 then pos 1000 else negsuc 999999) (λ n. false)

late_sender : parcel_rows pair pair_bundles pair_walks (off ∷ off ∷ []) 1 ≡
    Sent 1 (dev 0) (port 1) 0 2 (pos 1107720) (pos 1114440) ∷ Sent 1 (dev 0) (port 1) 0 3 (pos 1114440) (pos 1121160)
    ∷ Came 1 (dev 1) 0 0 ∷ Came 1 (dev 1) 0 1 ∷ []
late_sender = refl

-- ---- a sender that is out of step at first: eight parcels of 1514 bytes a cycle of 4 ms wait, 32 at most

abbrev long_pair : Plant
long_pair = plant_of 128 (device 1 ∷ device 1 ∷ []) (link 0 1 1 1 ∷ [])
    (record { source = dev 0; target = dev 1; «class» = Orange; length = 1514; every = 1; count = 8 } ∷ [])

abbrev muted : WorldRow
muted = row (λ d. pos 1001) (λ n. false)

abbrev late_world : List WorldRow
late_world = muted ∷ muted ∷ muted ∷ muted ∷ exact ∷ []

-- In the fifth cycle all 32 go, each in 123040 ns, and the eight that are made in it have been refused: 40 rows.
fifth_cycle : length (parcel_rows long_pair (bundle 128 1 ∷ bundle 128 1 ∷ []) pair_walks late_world 4) ≡ 40
fifth_cycle = refl

-- ---- three devices in a line, one orange parcel and one green one a cycle from the first to the last, and back

abbrev line : Plant
line = plant_of 32 (device 1 ∷ device 2 ∷ device 1 ∷ []) (link 0 1 1 1 ∷ link 1 2 2 1 ∷ [])
    (record { source = dev 0; target = dev 2; «class» = Green; length = 60; every = 1; count = 1 }
    ∷ record { source = dev 2; target = dev 0; «class» = Orange; length = 60; every = 2; count = 1 } ∷ [])

abbrev line_bundles : List Bundle
line_bundles = bundle 32 1 ∷ bundle 32 2 ∷ bundle 32 1 ∷ []

abbrev line_walks : List (List PortNo)
line_walks = (port 1 ∷ port 2 ∷ []) ∷ (port 1 ∷ port 1 ∷ []) ∷ []

-- in the second cycle the middle link is cut
abbrev middle_cut : List WorldRow
middle_cut = exact ∷ row (λ d. pos 0) (λ n. n == 1) ∷ exact ∷ []

line_first : parcel_rows line line_bundles line_walks middle_cut 0 ≡
    Sent 0 (dev 0) (port 1) 0 0 (pos 106720) (pos 113440) ∷ Sent 0 (dev 2) (port 1) 1 0 (pos 6720) (pos 13440) ∷ []
line_first = refl

line_second : parcel_rows line line_bundles line_walks middle_cut 1 ≡
    Sent 1 (dev 0) (port 1) 0 1 (pos 1106720) (pos 1113440) ∷ Sent 1 (dev 1) (port 1) 1 0 (pos 1006720) (pos 1013440)
    ∷ Sent 1 (dev 1) (port 2) 0 0 (pos 1106720) (pos 1113440) ∷ Lost 1 (dev 1) (port 2) 0 0 ∷ []
line_second = refl

line_third : parcel_rows line line_bundles line_walks middle_cut 2 ≡
    Sent 2 (dev 0) (port 1) 0 2 (pos 2106720) (pos 2113440) ∷ Sent 2 (dev 1) (port 2) 0 1 (pos 2106720) (pos 2113440)
    ∷ Sent 2 (dev 2) (port 1) 1 1 (pos 2006720) (pos 2013440) ∷ Came 2 (dev 0) 1 0 ∷ []
line_third = refl
