-- Accepted plans deliver in time, and receivers take what arrives.
use Rattle.std.proofs.Common.{◌≡◌, ℕ, ◌+◌, ◌*◌, ◌%◌, ◌≤◌, false, List, Option, Some, None, IsSome, inl, refl, option_map, sym, ◌∙◌, ap, ap₂, subst, subst₂, arith, slice_get, All, ◌==◌}
use Rattle.std.specs.Prelude.{ℤ, pos, ◌+ℤ◌, ◌-ℤ◌, ◌≤ℤ◌}
use Rattle.std.proofs.lemmas.Bool.{eqb-true}
use Rattle.std.proofs.lemmas.Int.{ints}
use Rattle.std.proofs.lemmas.Option.{same_Some}
use Rattle.irt_base.specs.Cycle.{IsDue, wire_time, cycle_time, guard_time}
use Rattle.irt_base.specs.Wiring.{peer_of}
use Rattle.irt_base.specs.declared.limits.TheConstants.{PHASES}
use Rattle.irt_base.specs.declared.numbers.DevId.{DevId}
use Rattle.irt_base.specs.declared.numbers.PortNo.{PortNo}
use Rattle.irt_base.specs.declared.blocks.Bundle.{Bundle}
use Rattle.irt_base.specs.declared.blocks.Entry.{Entry}
use Rattle.irt_base.specs.declared.blocks.Side.TheVariants.{Rx}
use Rattle.irt_base.specs.declared.plants.Device.{Device}
use Rattle.irt_base.specs.declared.plants.Mode.{Mode}
use Rattle.irt_base.specs.declared.plants.Mode.TheVariants.{Absolute, Relative}
use Rattle.irt_base.specs.declared.plants.Demand.{Demand}
use Rattle.irt_base.specs.declared.plants.Plant.{Plant}
use Rattle.plant_rules.specs.Meets.{IsDemand, MeetsRules}
use Rattle.plan_rules.specs.World.{WorldRow, IsInStep}
use Rattle.plan_rules.proofs.StartWindow.{IsInWindow}
use Rattle.plan_rules.specs.World.{IsWithinWindow}
use Rattle.plan_rules.specs.Way.{entry_at, Leaves, IsAbsolute, IsInRange}
use Rattle.plan_rules.specs.Tree.{demand_of}
use Rattle.plan_rules.specs.Arrival.{Arrival, IsArrival}
use Rattle.plan_rules.specs.Expected.{IsTaken, DeliversInTime, TakesArrivals}
use Rattle.plan_rules.specs.Frames.{IsForwarded}
use Rattle.plan_rules.specs.Headers.{is_relative}
use Rattle.plan_rules.specs.Network.{AreAlike, IsMet}
use Rattle.plan_rules.specs.Plan.{IsPlan, setup_of}
use Rattle.plan_rules.specs.Places.{IsAccepted, place_of}
use Rattle.plan_rules.proofs.Kept as kept
use Rattle.plan_rules.proofs.Wires.{end_of, mutual_peers, found}
use Rattle.plan_rules.proofs.AlongWay.{timed, live_parent, parent_sends}
use Rattle.plan_rules.proofs.Held.{held_of, all_at}
use Rattle.plan_rules.proofs.PortPeriods.{cycle_of, period_of_phase}
use Rattle.irt_base.proofs.CycleLemmas.{due_in_phase}
use Rattle.plan_rules.proofs.Sendings.{devices_of}

-- a frame that starts in its window is there in time
in_window_in_time : (origin lo hi hop wire window : ℕ) (error start end : ℤ) → IsInWindow start (pos origin) error (pos lo) (pos hi) → IsWithinWindow error (pos window) →
    end ≡ (start +ℤ pos (hop + wire)) → end ≤ℤ pos (origin + (hi + hop + wire + window))
in_window_in_time origin lo hi hop wire window error start end inside off ends = omega (arith, ints)

pub delivers_in_time : (plant : Plant) (bundles : List Bundle) → IsPlan plant bundles → IsAccepted plant bundles → (world : List WorldRow) →
    All (IsInRange (setup_of plant bundles)) world → DeliversInTime plant bundles world
delivers_in_time plant bundles plan accepted world ranges d is =
    let setup = setup_of plant bundles in
    let range = all_at (IsInRange setup) world d.cycle is.row ranges is.in_cycle in
    let t = timed setup plan.rules (devices_of plant bundles plan accepted) is.row range d.cycle d.frame is.parent is.sent is.starts
    (live_parent setup plan.rules is.row d.frame d.device is.parent is.port is.e is.stands is.comes is.live)
    (parent_sends setup d.frame d.device is.parent is.port is.e is.comes) in (
      t.window.hi + is.hop + wire_time is.e.data_length + plant.window,
      record {
        e = is.e;
        parent = is.parent;
        port = is.port;
        hop = is.hop;
        window = t.window;
        stands = is.stands;
        comes = is.comes;
        hops = is.hops;
        sends = t.has;
        is = refl;
      },
      in_window_in_time (d.cycle * cycle_time plant.factor) t.window.lo t.window.hi is.hop (wire_time is.e.data_length) plant.window (is.row.error t.window.anchor)
          is.sent d.end t.inside t.in_step is.ends,
    )

-- the receiver's local time at the start of arrival
abbrev local_time : ℕ → ℤ → ℤ → ℤ
local_time origin error start = start -ℤ (pos origin +ℤ error)

is_local : (origin : ℕ) (error start : ℤ) → (pos origin +ℤ error +ℤ local_time origin error start) ≡ start
is_local origin error start = omega (arith, ints)

opens_in_time : (origin lo hi hop window red : ℕ) (error receiver sent start : ℤ) → IsInWindow sent (pos origin) error (pos lo) (pos hi) → IsWithinWindow error (pos window) →
    IsWithinWindow receiver (pos window) → start ≡ (sent +ℤ pos hop) → red ≤ lo + hop → pos red ≤ℤ (local_time origin receiver start +ℤ pos (guard_time window))
opens_in_time origin lo hi hop window red error receiver sent start inside off own comes before = omega (arith, ints)

closes_in_time : (origin lo hi hop window more limit : ℕ) (error receiver sent start : ℤ) → IsInWindow sent (pos origin) error (pos lo) (pos hi) →
    IsWithinWindow error (pos window) → IsWithinWindow receiver (pos window) → start ≡ (sent +ℤ pos hop) → hi + hop + more + guard_time window ≤ limit →
    (local_time origin receiver start +ℤ pos more) ≤ℤ pos limit
closes_in_time origin lo hi hop window more limit error receiver sent start inside off own comes before = omega (arith, ints)

absolute_mode : (mode : Mode) → is_relative mode ≡ false → mode ≡ Absolute
absolute_mode Absolute is = refl
absolute_mode Relative is = absurd (cc)

-- a device whose blocks do not say relative is absolute
absolute_of : (plant : Plant) (device : ℕ) (d : Device) → slice_get plant.devices device ≡ Some d → is_relative d.mode ≡ false → IsAbsolute plant device
absolute_of plant device d is absolute = ap (option_map (λ (x : Device). x.mode)) is ∙ ap Some (absolute_mode d.mode absolute)

pub some_of : {A : Type 0} (o : Option A) → IsSome o → (x : A) × (o ≡ Some x)
some_of None is = absurd (cc)
some_of (Some x) is = (x, refl)

-- the demand that is found for a frame is the frame's, and valid
pub demand_found : (plant : Plant) → MeetsRules plant → (frame : ℕ) (demand : Demand) → demand_of plant frame ≡ Some demand →
    (demand.frame.0 ≡ frame) × IsDemand plant demand
demand_found plant rules frame demand is =
    let (named, valid) = found (λ (x : Demand). x.frame.0 == frame) (IsDemand plant) plant.demands demand rules.demands is in
    (eqb-true demand.frame.0 frame named, valid)

-- a frame's entry at its provider
pub provider_entry : (plant : Plant) (bundles : List Bundle) → IsAccepted plant bundles → (frame : ℕ) (demand : Demand) → demand_of plant frame ≡ Some demand →
    (own : Entry) × (entry_at (setup_of plant bundles) demand.provider.0 frame ≡ Some own)
provider_entry plant bundles accepted frame demand is =
    some_of (entry_at (setup_of plant bundles) demand.provider.0 frame)
    ((kept.trees plant bundles accepted (place_of demand.provider.0 0 frame)).present demand is (inl refl))

-- two entries of one frame have one length and are due in the same cycles
pub alike : (plant : Plant) (bundles : List Bundle) → IsAccepted plant bundles → (frame u v : ℕ) (demand : Demand) (d e : Entry) → demand_of plant frame ≡ Some demand →
    entry_at (setup_of plant bundles) u frame ≡ Some d → entry_at (setup_of plant bundles) v frame ≡ Some e → AreAlike d e
alike plant bundles accepted frame u v demand d e is first second =
    let (own, at) = provider_entry plant bundles accepted frame demand is in
    let here = kept.demands plant bundles accepted (place_of u 0 frame) demand own d is at first in
    let there = kept.demands plant bundles accepted (place_of v 0 frame) demand own e is at second in
    record { length = there.length ∙ sym here.length; ratio = there.ratio ∙ sym here.ratio; phase = there.phase ∙ sym here.phase }

-- the receiver's entry of a frame that arrives
pub met_by : (plant : Plant) (bundles : List Bundle) → IsPlan plant bundles → IsAccepted plant bundles → (from : Entry) (sender port device gate frame : ℕ) →
    entry_at (setup_of plant bundles) sender frame ≡ Some from → Leaves from port → peer_of plant sender port ≡ Some (end_of device gate) →
    IsMet (setup_of plant bundles) from sender port device gate frame
met_by plant bundles plan accepted from sender port device gate frame at leaves leads =
    let setup = setup_of plant bundles in
    let (demand, is_demand, tree) = (kept.trees plant bundles accepted (place_of sender 0 frame)).each from at in
    let r = tree.sent port leaves in
    let same_frame = (demand_found plant plan.rules frame demand is_demand).0 in
    let one = same_Some (end_of r.receiver r.e.rx_port) (end_of device gate) (sym r.leads ∙ leads) in
    let same_device : r.receiver ≡ device = ap (λ (x : DevId × PortNo). x.0.0) one in
    let same_port : r.e.rx_port ≡ gate = ap (λ (x : DevId × PortNo). x.1.0) one in
    let stands : entry_at setup device frame ≡ Some r.e = ap₂ (entry_at setup) (sym same_device) (sym same_frame) ∙ r.stands in
    record {
      e = r.e;
      stands = stands;
      port_is = same_port;
      alike = alike plant bundles accepted frame sender device demand from r.e is_demand at stands;
      comes = record { received = r.received; sent = (from, at, leaves); leads = leads ∙ ap (λ n. Some (end_of device n)) (sym same_port) };
    }

pub takes_arrival : (plant : Plant) (bundles : List Bundle) → IsPlan plant bundles → IsAccepted plant bundles → (row : WorldRow) →
    IsInRange (setup_of plant bundles) row → (from : Entry) (a : Arrival) → IsArrival (setup_of plant bundles) row from a →
    IsInStep plant row a.device → IsTaken plant bundles row from a
takes_arrival plant bundles plan accepted row range from a is own =
    let setup = setup_of plant bundles in
    let t = timed setup plan.rules (devices_of plant bundles plan accepted) row range a.cycle a.frame is.sender is.sent is.starts is.live
    (record { entry = from; stands = is.stands; port = is.port; leaves = is.leaves }) in
    let m = met_by plant bundles plan accepted from is.sender is.port a.device a.port a.frame is.stands is.leaves is.leads in
    let held = held_of plant bundles plan accepted a.device a.frame m.e m.stands in
    let blocks = held.blocks in
    let cycle = cycle_of plant bundles plan accepted a.device a.port is.sender is.port a.cycle blocks
    (mutual_peers plant plan.rules is.sender is.port a.device a.port is.leads) in
    let due : IsDue a.cycle m.e.ratio m.e.phase = subst₂ (IsDue a.cycle) (sym m.alike.ratio) (sym m.alike.phase) is.due in
    let forwarded : IsForwarded setup a.device a.frame m.e is.hop t.window =
    record { parent = is.sender; port = is.port; stands = m.stands; comes = m.comes; hops = is.hops; sends = t.has } in
    let red = kept.received plant bundles accepted (place_of a.device a.port a.frame) m.e is.hop t.window blocks.bundle
    (a.cycle % PHASES) cycle.rx forwarded m.port_is blocks.held (omega arith) (due_in_phase a.cycle m.e.ratio m.e.phase held.valid.rate due)
    (period_of_phase blocks.bundle.periods a.port a.cycle Rx ∙ cycle.receives) in
    let origin = a.cycle * cycle_time plant.factor in
    record {
      bundle = blocks.bundle;
      e = m.e;
      rx = cycle.rx;
      local = local_time origin (row.error a.device) a.start;
      held = blocks.held;
      stands = m.stands;
      length = m.alike.length;
      due = due;
      port = m.port_is;
      receives = cycle.receives;
      local_time = is_local origin (row.error a.device) a.start;
      opens = subst (λ n. pos cycle.rx.red ≤ℤ (local_time origin (row.error a.device) a.start +ℤ pos (guard_time n))) (sym blocks.header.window)
          (opens_in_time origin t.window.lo t.window.hi is.hop plant.window cycle.rx.red (row.error t.window.anchor) (row.error a.device) is.sent a.start
          t.inside t.in_step own is.comes red.0);
      closes = closes_in_time origin t.window.lo t.window.hi is.hop plant.window (wire_time m.e.data_length) cycle.rx.orange (row.error t.window.anchor)
          (row.error a.device) is.sent a.start t.inside t.in_step own is.comes red.1;
      early = λ absolute leaves.
          subst (λ n. (local_time origin (row.error a.device) a.start +ℤ pos n) ≤ℤ pos m.e.send_offset) (sym blocks.header.bridge)
          (closes_in_time origin t.window.lo t.window.hi is.hop plant.window blocks.d.bmax m.e.send_offset (row.error t.window.anchor) (row.error a.device)
          is.sent a.start t.inside t.in_step own is.comes
          (kept.forwards plant bundles accepted (place_of a.device 0 a.frame) m.e is.hop t.window blocks.d forwarded
          (absolute_of plant a.device blocks.d blocks.is_device (sym blocks.header.mode ∙ absolute)) leaves blocks.is_device));
    }

pub takes_arrivals : (plant : Plant) (bundles : List Bundle) → IsPlan plant bundles → IsAccepted plant bundles → (world : List WorldRow) →
    All (IsInRange (setup_of plant bundles)) world → TakesArrivals plant bundles world
takes_arrivals plant bundles plan accepted world ranges a row from in_cycle is own =
    takes_arrival plant bundles plan accepted row (all_at (IsInRange (setup_of plant bundles)) world a.cycle row ranges in_cycle) from a is own
