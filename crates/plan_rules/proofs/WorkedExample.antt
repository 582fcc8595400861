-- The definitions computed on one line of three devices: an absolute one sends a frame of 40 bytes at offset 0, a
-- relative switch forwards it, an absolute one consumes it. Each hop takes 800 ns, the switch 1000 to 3000.
use Rattle.std.proofs.Common.{◌≡◌, ℕ, ◌<◌, List, [], ◌∷◌, zero, suc, Some, refl, inl, inr, arith, replicate, slice_get, slice_index_or, subst, Bool, true, false}
use Rattle.std.specs.Prelude.{ℤ, pos, ◌≤ℤ◌}
use Rattle.std.proofs.lemmas.Int.{ints}
use Rattle.std.proofs.lemmas.Option.{same_Some, none-some}
use Rattle.irt_base.specs.Valid.{IsWithin}
use Rattle.irt_base.specs.Wiring.{hop_of}
use Rattle.irt_base.specs.declared.blocks.Bundle.{Bundle}
use Rattle.irt_base.specs.declared.blocks.Entry.{Entry}
use Rattle.irt_base.specs.declared.blocks.Period.{Period}
use Rattle.irt_base.specs.declared.blocks.PortDelay.{PortDelay}
use Rattle.irt_base.specs.declared.blocks.PortPeriods.{PortPeriods}
use Rattle.irt_base.specs.declared.plants.Clocks.TheVariants as clocks
use Rattle.irt_base.specs.declared.plants.Device.{Device}
use Rattle.irt_base.specs.declared.plants.Link.{Link}
use Rattle.irt_base.specs.declared.plants.Mode.{Mode}
use Rattle.irt_base.specs.declared.plants.Mode.TheVariants as modes
use Rattle.irt_base.specs.declared.plants.Plant.{Plant}
use Rattle.plan_rules.specs.World.{WorldRow}
use Rattle.plan_rules.specs.Way.{Setup, entry_at, IsAnchor, IsParent, IsLive, provided, forwarded, IsStart, by_offset, by_arrival, IsInRange}
use Rattle.plan_rules.specs.SendWindow.{HasWindow, at_anchor, behind}
use Rattle.plan_rules.specs.Occupation.{Occupation, IsOccupation, IsSameSending}
use Rattle.plan_rules.specs.Expected.{IsFree, NeverCollides}
use Rattle.plan_rules.specs.Plan.{setup_of}

abbrev ports : ℕ → List PortDelay
ports count = replicate count (record { tx = 100; rx = 200 })

abbrev device : ℕ → Mode → ℕ → Device
device letter mode count = record { name = letter ∷ []; mode = mode; bmin = 1000; bmax = 3000; ports = ports count }

abbrev link : ℕ → ℕ → ℕ → ℕ → Link
link a p b q = record { a = record { 0 = a }; a_port = record { 0 = p }; b = record { 0 = b }; b_port = record { 0 = q }; delay = 500 }

abbrev line : Plant
line = record {
  factor = 32;
  window = 1000;
  red_max = 250000;
  orange = 0;
  clocks = clocks.World;
  sync = record { send = 32; timeout = 6; drift = 0; stamp = 0; loss = 0 };
  devices = device 97 modes.Absolute 1 ∷ device 98 modes.Relative 2 ∷ device 99 modes.Absolute 1 ∷ [];
  links = link 0 1 1 1 ∷ link 1 2 2 1 ∷ [];
  demands = record { frame = record { 0 = 0x100 }; provider = record { 0 = 0 }; consumers = record { 0 = 2 } ∷ []; length = 40; update = 1000000 } ∷ [];
  traffic = [];
  apps = [];
}

abbrev red : Period
red = record { red = 0; orange = 250000; green = 250000 }

abbrev port_periods : PortPeriods
port_periods = record { assignments = record { tx = red; rx = red } ∷ []; phases = replicate 16 (record { tx = 0; rx = 0 }) }

abbrev entry : ℕ → ℕ → Entry
entry rx_port tx = record { send_offset = 0; data_length = 40; ratio = 1; phase = 1; frame = record { 0 = 0x100 }; rx_port = rx_port; tx = tx }

abbrev bundle : Bool → List Entry → ℕ → Bundle
bundle relative entries count = record {
  sync = record {
    subdomain = replicate 16 0;
    window = 1000;
    send = 32;
    factor = 32;
    timeout = 6;
    takeover = 6;
    startup = 0;
    properties = 0;
    priority1 = 0;
    priority2 = 0;
    name = 97 ∷ [];
  };
  slot = 0;
  subslot = 0x8000;
  global = record { uuid = replicate 16 0; bridge = 3000; ports = ports count };
  frames = record { relative = relative; entries = entries };
  periods = record { first = 0x100; last = 0xfff; ports = replicate count port_periods };
}

abbrev bundles : List Bundle
bundles = bundle false (entry 0 2 ∷ []) 1 ∷ bundle true (entry 1 4 ∷ []) 2 ∷ bundle false (entry 1 1 ∷ []) 1 ∷ []

abbrev setup : Setup
setup = setup_of line bundles

abbrev lateness : ℕ → ℤ
lateness zero = pos 500
lateness (suc device) = pos 0

-- the provider's clock is 500 ns late, the switch's in time; the switch takes 2000 ns
abbrev late : WorldRow
late = record { error = λ device. lateness device; bridge = λ device frame. 2000; is_cut = λ link. false }

abbrev Takes : Device → Type 0
Takes d = IsWithin d.bmin d.bmax 2000

hop : hop_of line 0 1 ≡ Some 800
hop = refl

found : entry_at setup 1 0x100 ≡ Some (entry 1 4)
found = refl

relays : ¬ IsAnchor setup 1 (entry 1 4)
relays (inl own) = absurd (cc)
relays (inr absolute) = let no = absolute.0 in absurd (cc)

comes : IsParent setup 0x100 1 (entry 1 4) 0 1
comes = record { received = omega arith; sent = (entry 0 2, refl, record { from_one = omega arith; bit = λ none. cc }); leads = refl }

-- behind an offset of 0, a hop of 800 and a bridge of 1000 to 3000 the window is 1800 to 3800
window : HasWindow setup 0x100 1 (record { lo = 1800; hi = 3800; anchor = 0 })
window =
    behind 1 (entry 1 4) 0 1 800 (record { lo = 0; hi = 0; anchor = 0 }) (device 98 modes.Relative 2) refl relays comes
    (at_anchor 0 (entry 0 2) refl (inl refl)) refl refl

-- in cycle 1 the switch starts the frame at 1000000 + 500 + 800 + 2000
start : IsStart setup late 1 0x100 1 (pos 1003300)
start = by_arrival 1 (entry 1 4) 0 1 800 (pos 1000500) refl relays comes (by_offset 0 (entry 0 2) refl (inl refl)) refl

live : IsLive setup late 0x100 1
live =
    forwarded 1 (entry 1 4) 0 1 refl comes (provided 0 (entry 0 2) refl refl (record { early = omega (arith, ints); late = omega (arith, ints) })) refl
    (record { early = omega (arith, ints); late = omega (arith, ints) })

abbrev sent : Occupation
sent = record { cycle = 1; device = 1; port = 2; frame = 0x100; start = pos 1003300; end = pos 1010020 }

occupies : IsOccupation setup (late ∷ late ∷ []) sent
occupies = record {
  row = late;
  entry = entry 1 4;
  in_cycle = refl;
  stands = refl;
  due = refl;
  leaves = record { from_one = omega arith; bit = λ none. cc };
  live = live;
  starts = start;
  ends = refl;
}

-- 2000 ns is in the range of each device's bridge delay
in_range : IsInRange setup late
in_range n frame e d at is_device relay = go n d is_device
  where
    go : (n : ℕ) (d : Device) → slice_get line.devices n ≡ Some d → Takes d
    go zero d is = subst Takes (same_Some (device 97 modes.Absolute 1) d is) (omega arith, omega arith)
    go (suc zero) d is = subst Takes (same_Some (device 98 modes.Relative 2) d is) (omega arith, omega arith)
    go (suc (suc zero)) d is = subst Takes (same_Some (device 99 modes.Absolute 1) d is) (omega arith, omega arith)
    go (suc (suc (suc n))) d is = absurd (none-some d is)

-- cycle 1 leaves the switch's second port to parcels from 1250000 until 1998000
free : IsFree line bundles (late ∷ late ∷ []) 1 2 (pos 1250000) (pos 1998000)
free = record {
  cycle = 1;
  row = late;
  bundle = bundle true (entry 1 4 ∷ []) 2;
  tx = red;
  in_cycle = refl;
  in_step = record { early = omega (arith, ints); late = omega (arith, ints) };
  held = refl;
  sends = refl;
  opens = omega (arith, ints);
  closes = omega (arith, ints);
}

-- What the law excludes: with two frames at one offset, against V6, they collide.
abbrev own : ℕ → Entry
own frame = record { send_offset = 0; data_length = 40; ratio = 1; phase = 1; frame = record { 0 = frame }; rx_port = 0; tx = 2 }

abbrev clashing : List Bundle
clashing = bundle false (own 0x100 ∷ own 0x101 ∷ []) 1 ∷ []

abbrev at_once : ℕ → Occupation
at_once frame = record { cycle = 0; device = 0; port = 1; frame = frame; start = pos 500; end = pos 7220 }

abbrev both : List Occupation
both = at_once 0x100 ∷ at_once 0x101 ∷ []

own_occupies : (frame : ℕ) → entry_at (setup_of line clashing) 0 frame ≡ Some (own frame) → IsOccupation (setup_of line clashing) (late ∷ []) (at_once frame)
own_occupies frame at = record {
  row = late;
  entry = own frame;
  in_cycle = refl;
  stands = at;
  due = refl;
  leaves = record { from_one = omega arith; bit = λ none. cc };
  live = provided 0 (own frame) at refl (record { early = omega (arith, ints); late = omega (arith, ints) });
  starts = by_offset 0 (own frame) at (inl refl);
  ends = refl;
}

each_occupies : (k : ℕ) (d : Occupation) → k < 2 → IsOccupation (setup_of line clashing) (late ∷ []) (slice_index_or both k d)
each_occupies zero d below = own_occupies 0x100 refl
each_occupies (suc zero) d below = own_occupies 0x101 refl
each_occupies (suc (suc k)) d below = absurd (omega arith)

two_sendings : (i j : ℕ) (d : Occupation) → i < j → j < 2 → ¬ IsSameSending (slice_index_or both i d) (slice_index_or both j d)
two_sendings zero zero d before below same = absurd (omega arith)
two_sendings zero (suc zero) d before below same = absurd (omega (arith, same.frame))
two_sendings zero (suc (suc j)) d before below same = absurd (omega arith)
two_sendings (suc i) j d before below same = absurd (omega arith)

clashes : ¬ NeverCollides line clashing (late ∷ [])
clashes never =
    elim (never both (record { each = each_occupies; once = two_sendings }) 0 1 (at_once 0) (omega arith) (omega arith) (record { device = refl; port = refl })) [
      | inl before ↦ let no : pos 7220 ≤ℤ pos 500 = before in absurd (omega (arith, ints))
      | inr after ↦ let no : pos 7220 ≤ℤ pos 500 = after in absurd (omega (arith, ints))
    ]
