-- The definitions computed on one plan: device 0 sends a frame of 40 bytes at offset 0 to device 1, over a link of
-- 500 ns between ports of 100 ns (Tx) and 200 ns (Rx). Its clock and the receiver's are exact.
use Rattle.std.proofs.Common.{◌≡◌, ℕ, zero, suc, List, [], ◌∷◌, Some, refl, inl, inr, arith, replicate, lit<}
use Rattle.std.specs.Prelude.{ℤ, pos, negsuc, false}
use Rattle.std.proofs.lemmas.Bool.{cases_lt}
use Rattle.std.proofs.lemmas.Int.{ints}
use Rattle.irt_base.specs.Wiring.{peer_of, hop_of, link_number}
use Rattle.irt_base.specs.declared.blocks.Assignment.{Assignment}
use Rattle.irt_base.specs.declared.blocks.Bundle.{Bundle}
use Rattle.irt_base.specs.declared.blocks.Entry.{Entry}
use Rattle.irt_base.specs.declared.blocks.Period.{Period}
use Rattle.irt_base.specs.declared.blocks.PortDelay.{PortDelay}
use Rattle.irt_base.specs.declared.plants.Clocks.TheVariants as clocks
use Rattle.irt_base.specs.declared.plants.Demand.{Demand}
use Rattle.irt_base.specs.declared.plants.Device.{Device}
use Rattle.irt_base.specs.declared.plants.Mode.TheVariants as modes
use Rattle.irt_base.specs.declared.plants.Plant.{Plant}
use Rattle.plan_rules.specs.World.{WorldRow, IsInStep}
use Rattle.plan_rules.specs.Way.{Setup, entry_at, Leaves, IsParent, IsLive, provided, forwarded, IsStart, by_offset}
use Rattle.plan_rules.specs.Arrival.{Arrival, IsArrival, IsDrop, Delivery, IsDelivery, IsInTime}
use Rattle.plan_rules.specs.Expected.{IsTaken}
use Rattle.plan_rules.specs.Network.{IsNearCycle}
use Rattle.plan_rules.specs.Occupation.{Occupation, IsOccupation}
use Rattle.plan_rules.specs.Once.{IsDueFrame, HasToSend, HasToReach, IsUndisturbed}
use Rattle.plan_rules.specs.Plan.{setup_of}
use Rattle.plan_rules.specs.SendWindow.{HasWindow, at_anchor}
use Rattle.plan_rules.proofs.Starts.{no_high_bit}

-- ---- the plan

abbrev pub delays : PortDelay
delays = record { tx = 100; rx = 200 }

abbrev pub device : ℕ → Device
device letter = record { name = letter ∷ []; mode = modes.Absolute; bmin = 1000; bmax = 3000; ports = delays ∷ [] }

abbrev pub demand : Demand
demand = record { frame = record { 0 = 0x100 }; provider = record { 0 = 0 }; consumers = record { 0 = 1 } ∷ []; length = 40; update = 1000000 }

abbrev pub pair : Plant
pair = record {
  factor = 32;
  window = 1000;
  red_max = 250000;
  orange = 0;
  clocks = clocks.World;
  sync = record { send = 32; timeout = 6; drift = 0; stamp = 0; loss = 0 };
  devices = device 97 ∷ device 98 ∷ [];
  links = record { a = record { 0 = 0 }; a_port = record { 0 = 1 }; b = record { 0 = 1 }; b_port = record { 0 = 1 }; delay = 500 } ∷ [];
  demands = demand ∷ [];
  traffic = [];
  apps = [];
}

abbrev pub entry : ℕ → ℕ → Entry
entry rx_port tx = record { send_offset = 0; data_length = 40; ratio = 1; phase = 1; frame = record { 0 = 0x100 }; rx_port = rx_port; tx = tx }

-- the sender's and the receiver's
abbrev pub own : Entry
own = entry 0 2

abbrev pub leaf : Entry
leaf = entry 1 1

abbrev pub red_until : ℕ → Period
red_until end = record { red = 0; orange = end; green = end }

-- the sender has the frame on the wire for 6720 ns, the receiver 800 and two windows later
abbrev pub sending : Assignment
sending = record { tx = red_until 6720; rx = red_until 0 }

abbrev pub receiving : Assignment
receiving = record { tx = red_until 0; rx = red_until 9520 }

abbrev pub identifier : List ℕ
identifier = 0 ∷ 0 ∷ 0 ∷ 0 ∷ 0 ∷ 0 ∷ 0 ∷ 0 ∷ 0 ∷ 0 ∷ 0 ∷ 0 ∷ 0 ∷ 0 ∷ 0 ∷ 1 ∷ []

abbrev pub bundle : ℕ → Entry → Assignment → Bundle
bundle role entry assignment = record {
  sync = record {
    subdomain = identifier;
    window = 1000;
    send = 32;
    factor = 32;
    timeout = 6;
    takeover = 3;
    startup = 60;
    properties = role;
    priority1 = 1;
    priority2 = 255;
    name = 105 ∷ 114 ∷ 116 ∷ [];
  };
  slot = 0;
  subslot = 0x8000;
  global = record { uuid = identifier; bridge = 3000; ports = delays ∷ [] };
  frames = record { relative = false; entries = entry ∷ [] };
  periods = record {
    first = 0x100;
    last = 0x6ff;
    ports = record { assignments = assignment ∷ []; phases = replicate 16 (record { tx = 0; rx = 0 }) } ∷ [];
  };
}

abbrev pub first : Bundle
first = bundle 1 own sending

abbrev pub second : Bundle
second = bundle 2 leaf receiving

abbrev pub bundles : List Bundle
bundles = first ∷ second ∷ []

abbrev pub setup : Setup
setup = setup_of pair bundles

-- ---- the wiring

peer : peer_of pair 0 1 ≡ Some (record { 0 = 1 }, record { 0 = 1 })
peer = refl

hop : hop_of pair 0 1 ≡ Some 800
hop = refl

number : link_number pair 1 1 ≡ Some 0
number = refl

found : entry_at setup 1 0x100 ≡ Some leaf
found = refl

pub leaves : Leaves own 1
leaves = record { from_one = omega arith; bit = λ none. cc }

-- by that port alone; and from the receiver nowhere
pub one_port : (port : ℕ) → Leaves own port → port ≡ 1
one_port port sends =
    elim (cases_lt port 2) [
      | inl low ↦ omega (arith, low, sends.from_one)
      | inr high ↦ absurd (no_high_bit 2 2 port (lit< tt) high sends.bit)
    ]

pub leaf_stays : (port : ℕ) → ¬ Leaves leaf port
leaf_stays port sends = no_high_bit 1 1 port (lit< tt) sends.from_one sends.bit

pub comes : IsParent setup 0x100 1 leaf 0 1
comes = record { received = omega arith; sent = (own, refl, leaves); leads = refl }

-- ---- cycle 1

abbrev exact : WorldRow
exact = record { error = λ device. pos 0; bridge = λ device frame. 1000; is_cut = λ link. false }

in_step : (device : ℕ) → IsInStep pair exact device
in_step device = record { early = omega (arith, ints); late = omega (arith, ints) }

live : IsLive setup exact 0x100 0
live = provided 0 own refl refl (in_step 0)

start : IsStart setup exact 1 0x100 0 (pos 1000000)
start = by_offset 0 own refl (inl refl)

-- the frame is on the wire from 1000000 to 1006720
abbrev sent : Occupation
sent = record { cycle = 1; device = 0; port = 1; frame = 0x100; start = pos 1000000; end = pos 1006720 }

occupies : IsOccupation setup (exact ∷ exact ∷ []) sent
occupies = record {
  row = exact;
  entry = own;
  in_cycle = refl;
  stands = refl;
  due = refl;
  leaves = leaves;
  live = live;
  starts = start;
  ends = refl;
}

-- as it has to, in an undisturbed cycle
due : IsDueFrame setup 1 0x100 demand
due = record { own = own; demanded = refl; stands = refl; due = refl }

sender : HasToSend setup (exact ∷ exact ∷ []) 1 0 1 0x100
sender = record { row = exact; demand = demand; entry = own; in_cycle = refl; due = due; stands = refl; leaves = leaves; live = live }

undisturbed : IsUndisturbed pair exact
undisturbed = record { in_step = λ n there. in_step n; uncut = λ link there. refl }

-- it begins to arrive at 1000800
abbrev arrival : Arrival
arrival = record { cycle = 1; device = 1; port = 1; frame = 0x100; start = pos 1000800 }

arrives_in : (row : WorldRow) → IsLive setup row 0x100 0 → IsStart setup row 1 0x100 0 (pos 1000000) → row.is_cut 0 ≡ false → IsArrival setup row own arrival
arrives_in row live start uncut = record {
  sender = 0;
  port = 1;
  hop = 800;
  sent = pos 1000000;
  stands = refl;
  due = refl;
  leaves = leaves;
  live = live;
  uncut = uncut;
  leads = refl;
  hops = refl;
  starts = start;
  comes = refl;
}

arrives : IsArrival setup exact own arrival
arrives = arrives_in exact live start refl

-- which is at 800 of the receiver's time, in its red period from 0 to 9520
taken : IsTaken pair bundles exact own arrival
taken = record {
  bundle = second;
  e = leaf;
  rx = red_until 9520;
  local = pos 800;
  held = refl;
  stands = refl;
  length = refl;
  due = refl;
  port = refl;
  receives = refl;
  local_time = refl;
  opens = omega (arith, ints);
  closes = omega (arith, ints);
  early = λ absolute (port, sends). absurd (leaf_stays port sends);
}

-- it has come at 1007520, as planned by 1008520
abbrev delivery : Delivery
delivery = record { cycle = 1; device = 1; frame = 0x100; end = pos 1007520 }

delivers : IsDelivery setup (exact ∷ exact ∷ []) delivery
delivers = record {
  row = exact;
  demand = demand;
  e = leaf;
  parent = 0;
  port = 1;
  hop = 800;
  sent = pos 1000000;
  in_cycle = refl;
  demanded = refl;
  consumed = (0, omega arith, refl);
  stands = refl;
  due = refl;
  live = forwarded 1 leaf 0 1 refl comes live refl (in_step 1);
  comes = comes;
  hops = refl;
  starts = start;
  ends = refl;
}

recipient : HasToReach setup (exact ∷ exact ∷ []) 1 1 0x100
recipient = record {
  row = exact;
  demand = demand;
  in_cycle = refl;
  due = due;
  consumed = (0, omega arith, refl);
  live = forwarded 1 leaf 0 1 refl comes live refl (in_step 1);
}

pub window : HasWindow setup 0x100 0 (record { lo = 0; hi = 0; anchor = 0 })
window = at_anchor 0 own refl (inl refl)

arrives_in_time : IsInTime setup delivery
arrives_in_time = (
  8520,
  record {
    e = leaf;
    parent = 0;
    port = 1;
    hop = 800;
    window = record { lo = 0; hi = 0; anchor = 0 };
    stands = refl;
    comes = comes;
    hops = refl;
    sends = window;
    is = refl;
  },
  omega (arith, ints),
)

near : IsNearCycle pair 1 (pos 1007520)
near = record { low = omega (arith, ints); high = omega (arith, ints) }

-- a receiver whose clock is 1001 ns early is out of step, and drops it
abbrev early : ℕ → ℤ
early zero = pos 0
early (suc device) = negsuc 1000

abbrev apart : WorldRow
apart = record { error = early; bridge = λ device frame. 1000; is_cut = λ link. false }

dropped : IsDrop setup apart own arrival
dropped = (
  arrives_in apart (provided 0 own refl refl (record { early = omega (arith, ints); late = omega (arith, ints) })) (by_offset 0 own refl (inl refl)) refl,
  λ step. absurd (let low = step.early in omega (arith, ints)),
)
