-- What a network that plays accepted blocks rests on.
use Rattle.std.proofs.Common.{◌≡◌, ℕ, ◌+◌, ◌*◌, ◌≤◌, inl, inr, false, List, Some, slice_get, option_map, refl, sym, ◌∙◌, ap, subst, subst₂, arith}
use Rattle.std.specs.Prelude.{ℤ, pos, ◌+ℤ◌, ◌≤ℤ◌}
use Rattle.std.proofs.lemmas.Int.{ints}
use Rattle.std.proofs.lemmas.Option.{same_Some}
use Rattle.irt_base.specs.Cycle.{IsDue, wire_time, cycle_time, guard_time}
use Rattle.irt_base.specs.Wiring.{hop_of}
use Rattle.irt_base.specs.declared.numbers.DevId.{DevId}
use Rattle.irt_base.specs.declared.numbers.PortNo.{PortNo}
use Rattle.irt_base.specs.declared.blocks.Bundle.{Bundle}
use Rattle.irt_base.specs.declared.blocks.Entry.{Entry}
use Rattle.irt_base.specs.declared.plants.Device.{Device}
use Rattle.irt_base.specs.declared.plants.Mode.TheVariants.{Absolute}
use Rattle.irt_base.specs.declared.plants.Plant.{Plant}
use Rattle.plan_rules.specs.World.{WorldRow, IsWithinWindow}
use Rattle.plan_rules.specs.Way.{Setup, entry_at, Leaves, IsAbsolute, IsAnchor, IsParent, IsLive, forwarded, IsStart, by_offset, by_arrival, IsInRange}
use Rattle.plan_rules.specs.Arrival.{Arrival, IsArrival}
use Rattle.plan_rules.specs.Headers.{is_relative}
use Rattle.plan_rules.specs.Network.{EntriesAreDemanded, AreAlike, EntriesAreAlike, IsSentAt, ArrivesOnce, MeetsArrivals, SendsOn, DeliversArrivals, IsNearCycle, StaysNear, AllNear}
use Rattle.plan_rules.specs.Plan.{IsPlan, setup_of}
use Rattle.plan_rules.specs.Places.{IsAccepted, place_of}
use Rattle.plan_rules.proofs.Kept as kept
use Rattle.plan_rules.proofs.AlongWay.{timed, live_parent, uncut_from, in_step_of}
use Rattle.plan_rules.proofs.Arrivals.{alike, met_by, takes_arrival}
use Rattle.plan_rules.proofs.Exactly.{bytes}
use Rattle.plan_rules.proofs.Held.{held_of, blocks_of, all_at}
use Rattle.plan_rules.proofs.Sendings.{devices_of}
use Rattle.plan_rules.proofs.StartWindow.{IsInWindow}
use Rattle.plan_rules.proofs.Starts.{hop_there, absolute_cases, port_below, one_start}
use Rattle.plan_rules.proofs.Wires.{end_of, mutual_peers}

-- ---- plain times

-- a frame that begins a while after a start in its window, and is over a guard before the cycle's end
shifted : (period window k lo hi shift wire : ℕ) (error sent start : ℤ) → IsInWindow sent (pos (k * period)) error (pos lo) (pos hi) →
    IsWithinWindow error (pos window) → start ≡ (sent +ℤ pos shift) → hi + shift + wire + guard_time window ≤ period →
    (pos (k * period) ≤ℤ (start +ℤ pos window)) × ((start +ℤ pos wire +ℤ pos window) ≤ℤ pos ((k + 1) * period))
shifted period window k lo hi shift wire error sent start inside off comes fits = (omega (arith, ints), omega (arith, ints))

stays : (plant : Plant) (k bytes : ℕ) (start : ℤ) → (pos (k * cycle_time plant.factor) ≤ℤ (start +ℤ pos plant.window))
    × ((start +ℤ pos (wire_time bytes) +ℤ pos plant.window) ≤ℤ pos ((k + 1) * cycle_time plant.factor)) → StaysNear plant k bytes start
stays plant k bytes start (low, high) = record {
  begin = record { low = low; high = before plant.window (wire_time bytes) ((k + 1) * cycle_time plant.factor) start high };
  end = record { low = after plant.window (wire_time bytes) (k * cycle_time plant.factor) start low; high = high };
}
  where
    before : (window wire limit : ℕ) (start : ℤ) → (start +ℤ pos wire +ℤ pos window) ≤ℤ pos limit → (start +ℤ pos window) ≤ℤ pos limit
    before window wire limit start high = omega (arith, ints)

    after : (window wire origin : ℕ) (start : ℤ) → pos origin ≤ℤ (start +ℤ pos window) → pos origin ≤ℤ (start +ℤ pos wire +ℤ pos window)
    after window wire origin start low = omega (arith, ints)

-- an end a hop and a wire time after the start
whole : (sent came : ℤ) (hop bytes length : ℕ) → came ≡ (sent +ℤ pos hop) → bytes ≡ length →
    (came +ℤ pos (wire_time length)) ≡ (sent +ℤ pos (hop + wire_time bytes))
whole sent came hop bytes length comes same = omega (arith, ints)

no_shift : (start : ℤ) → start ≡ (start +ℤ pos 0)
no_shift start = omega (arith, ints)

relay_start : (sent came : ℤ) (hop bridge : ℕ) → came ≡ (sent +ℤ pos hop) → (sent +ℤ pos (hop + bridge)) ≡ (came +ℤ pos bridge)
relay_start sent came hop bridge is = omega (arith, ints)

after_bridge : (came : ℤ) (bridge : ℕ) → came ≤ℤ (came +ℤ pos bridge)
after_bridge came bridge = omega (arith, ints)

anchor_start : (origin offset bridge : ℕ) (error local came : ℤ) → (pos origin +ℤ error +ℤ local) ≡ came → (local +ℤ pos bridge) ≤ℤ pos offset →
    came ≤ℤ (pos (origin + offset) +ℤ error)
anchor_start origin offset bridge error local came is early = omega (arith, ints)

module _ (plant : Plant) (bundles : List Bundle) (plan : IsPlan plant bundles) (accepted : IsAccepted plant bundles) where
  abbrev setup : Setup
  setup = setup_of plant bundles

  -- ---- entries

  pub entries_are_demanded : EntriesAreDemanded setup
  entries_are_demanded device frame e at =
      let (demand, demanded, tree) = (kept.trees plant bundles accepted (place_of device 0 frame)).each e at in
      let held = held_of plant bundles plan accepted device frame e at in
      record {
        demand = demand;
        demanded = demanded;
        kept = tree.consumed;
        named = held.is_frame;
        valid = held.valid;
        ports = λ port leaves. port_below e port held.valid.tx leaves;
      }

  pub entries_are_alike : EntriesAreAlike setup
  entries_are_alike frame u v d e at there =
      let (demand, demanded, tree) = (kept.trees plant bundles accepted (place_of u 0 frame)).each d at in
      alike plant bundles accepted frame u v demand d e demanded at there

  pub meets_arrivals : MeetsArrivals setup
  meets_arrivals row from a is =
      met_by plant bundles plan accepted from is.sender is.port a.device a.port a.frame is.stands is.leaves is.leads

  -- ---- arrivals

  pub arrives_once : ArrivesOnce setup
  arrives_once row k device port frame far gate sent is uncut leads =
      let (hop, hops) = hop_there plant device port far gate leads in
      record {
        one = sent +ℤ pos hop;
        is = record {
          sender = device;
          port = port;
          hop = hop;
          sent = sent;
          stands = is.stands;
          due = is.due;
          leaves = is.leaves;
          live = is.live;
          uncut = uncut;
          leads = leads;
          hops = hops;
          starts = is.starts;
          comes = refl;
        };
        only = λ other also.
            let back = mutual_peers plant plan.rules device port far gate leads in
            let again = mutual_peers plant plan.rules also.sender also.port far gate also.leads in
            let ends = same_Some (end_of also.sender also.port) (end_of device port) (sym again ∙ back) in
            let senders : also.sender ≡ device = ap (λ (x : DevId × PortNo). x.0.0) ends in
            let ports : also.port ≡ port = ap (λ (x : DevId × PortNo). x.1.0) ends in
            let starts : IsStart setup row k frame device also.sent = subst (λ d. IsStart setup row k frame d also.sent) senders also.starts in
            let start : also.sent ≡ sent = one_start setup plan.rules row k frame device also.sent sent starts is.starts in
            let hop_also : hop_of plant device port ≡ Some also.hop = (λ i. hop_of plant (sym senders i) (sym ports i)) ∙ also.hops in
            let hop_same : also.hop ≡ hop = same_Some also.hop hop (sym hop_also ∙ hops) in
            also.comes ∙ (λ i. start i +ℤ pos (hop_same i));
      }

  -- ---- what arrives is sent on

  mode_of : (device : ℕ) (d : Device) → slice_get plant.devices device ≡ Some d → IsAbsolute plant device → is_relative d.mode ≡ false
  mode_of device d at absolute =
      let mode : d.mode ≡ Absolute = same_Some d.mode Absolute (sym (ap (option_map (λ (x : Device). x.mode)) at) ∙ absolute) in ap is_relative mode

  pub sends_on : SendsOn setup
  sends_on row range from a e port is step at leaves =
      let met = meets_arrivals row from a is in
      let same : met.e ≡ e = same_Some met.e e (sym met.stands ∙ at) in
      let comes : IsParent setup a.frame a.device e is.sender is.port = subst (λ x. IsParent setup a.frame a.device x is.sender is.port) same met.comes in
      let due : IsDue a.cycle e.ratio e.phase =
      subst (λ (x : Entry). IsDue a.cycle x.ratio x.phase) same (subst₂ (IsDue a.cycle) (sym met.alike.ratio) (sym met.alike.phase) is.due) in
      let live : IsLive setup row a.frame a.device = forwarded a.device e is.sender is.port at comes is.live is.uncut step in
      let sent : (start : ℤ) → IsStart setup row a.cycle a.frame a.device start → IsSentAt setup row a.cycle a.device port a.frame start =
      λ start starts. record { entry = e; stands = at; due = due; leaves = leaves; live = live; starts = starts } in
      elim (absolute_cases plant a.device) [
        | inl absolute ↦
            let start = pos (a.cycle * cycle_time plant.factor + e.send_offset) +ℤ row.error a.device in
            let taken = takes_arrival plant bundles plan accepted row range from a is step in
            let blocks = blocks_of plant bundles plan accepted a.device taken.bundle taken.held in
            let own : taken.bundle ≡ blocks.bundle = same_Some taken.bundle blocks.bundle (sym taken.held ∙ blocks.held) in
            let not_relative : taken.bundle.frames.relative ≡ false =
            ap (λ (b : Bundle). b.frames.relative) own ∙ (blocks.header.mode ∙ mode_of a.device blocks.d blocks.is_device absolute) in
            let again : taken.e ≡ e = same_Some taken.e e (sym taken.stands ∙ at) in
            let early = taken.early not_relative (port, subst (λ x. Leaves x port) (sym again) leaves) in
            let offset : taken.e.send_offset ≡ e.send_offset = ap (λ (x : Entry). x.send_offset) again in
            record {
              start = start;
              sent = sent start (by_offset a.device e at (inr (absolute, (port, leaves))));
              absolute = λ is. refl;
              relative = λ not. absurd (not absolute);
              later = anchor_start (a.cycle * cycle_time plant.factor) e.send_offset taken.bundle.global.bridge (row.error a.device) taken.local a.start taken.local_time
                  (subst (λ n. (taken.local +ℤ pos taken.bundle.global.bridge) ≤ℤ pos n) offset early);
            }
        | inr relative ↦
            let start = a.start +ℤ pos (row.bridge a.device a.frame) in
            let other : ¬ IsAnchor setup a.device e = no_anchor a.device e comes.received relative in
            record {
              start = start;
              sent = sent start (subst (IsStart setup row a.cycle a.frame a.device) (relay_start is.sent a.start is.hop (row.bridge a.device a.frame) is.comes)
                  (by_arrival a.device e is.sender is.port is.hop is.sent at other comes is.starts is.hops));
              absolute = λ is. absurd (relative is);
              relative = λ not. refl;
              later = after_bridge a.start (row.bridge a.device a.frame);
            }
      ]
    where
      no_anchor : (device : ℕ) (e : Entry) → 1 ≤ e.rx_port → ¬ IsAbsolute plant device → ¬ IsAnchor setup device e
      no_anchor device e far relative (inl own) = omega (arith, own, far)
      no_anchor device e far relative (inr both) = relative both.0

  -- ---- what arrives is delivered

  pub delivers_arrivals : (world : List WorldRow) → DeliversArrivals setup world
  delivers_arrivals world = record {
    each = λ row from a e in_cycle is step at keeps.
        let met = meets_arrivals row from a is in
        let same : met.e ≡ e = same_Some met.e e (sym met.stands ∙ at) in
        let comes : IsParent setup a.frame a.device e is.sender is.port = subst (λ x. IsParent setup a.frame a.device x is.sender is.port) same met.comes in
        let alike : AreAlike from e = subst (λ x. AreAlike from x) same met.alike in
        let entry = entries_are_demanded a.device a.frame e at in
        record {
          row = row;
          demand = entry.demand;
          e = e;
          parent = is.sender;
          port = is.port;
          hop = is.hop;
          sent = is.sent;
          in_cycle = in_cycle;
          demanded = entry.demanded;
          consumed = entry.kept.0 keeps;
          stands = at;
          due = subst₂ (IsDue a.cycle) (sym alike.ratio) (sym alike.phase) is.due;
          live = forwarded a.device e is.sender is.port at comes is.live is.uncut step;
          comes = comes;
          hops = is.hops;
          starts = is.starts;
          ends = whole is.sent a.start is.hop e.data_length from.data_length is.comes alike.length;
        };
    only = λ d is.
        let (from, at, leaves) = is.comes.sent in
        let alike = entries_are_alike d.frame is.parent d.device from is.e at is.stands in
        record {
          row = is.row;
          from = from;
          port = is.e.rx_port;
          start = is.sent +ℤ pos is.hop;
          in_cycle = is.in_cycle;
          arrives = record {
            sender = is.parent;
            port = is.port;
            hop = is.hop;
            sent = is.sent;
            stands = at;
            due = subst₂ (IsDue d.cycle) alike.ratio alike.phase is.due;
            leaves = leaves;
            live = live_parent setup plan.rules is.row d.frame d.device is.parent is.port is.e is.stands is.comes is.live;
            uncut = uncut_from setup plan.rules is.row d.frame d.device is.parent is.port is.e is.stands is.comes is.live;
            leads = is.comes.leads;
            hops = is.hops;
            starts = is.starts;
            comes = refl;
          };
          in_step = in_step_of setup is.row d.frame d.device is.live;
          ends = is.ends ∙ sym (whole is.sent (is.sent +ℤ pos is.hop) is.hop is.e.data_length from.data_length refl alike.length);
        };
  }

  -- ---- near the cycle

  -- a start in its window, with its hop
  near_after : (row : WorldRow) → IsInRange setup row → (k device port frame hop shift : ℕ) (e : Entry) (sent start : ℤ) → entry_at setup device frame ≡ Some e →
      Leaves e port → IsLive setup row frame device → IsStart setup row k frame device sent → hop_of plant device port ≡ Some hop → shift ≤ hop →
      start ≡ (sent +ℤ pos shift) → StaysNear plant k e.data_length start
  near_after row range k device port frame hop shift e sent start at leaves live starts hops within comes =
      let t = timed setup plan.rules (devices_of plant bundles plan accepted) row range k frame device sent starts live
      (record { entry = e; stands = at; port = port; leaves = leaves }) in
      let ends = kept.ends plant bundles accepted (place_of device port frame) e t.window hop (record { stands = at; leaves = leaves; sends = t.has }) hops in
      stays plant k e.data_length start
      (shifted (cycle_time plant.factor) plant.window k t.window.lo t.window.hi shift (wire_time e.data_length) (row.error t.window.anchor) sent start
      t.inside t.in_step comes (omega (arith, ends, within)))

  arrives_near : (row : WorldRow) → IsInRange setup row → (from : Entry) (a : Arrival) → IsArrival setup row from a → StaysNear plant a.cycle from.data_length a.start
  arrives_near row range from a is =
      near_after row range a.cycle is.sender is.port a.frame is.hop is.hop from is.sent a.start is.stands is.leaves is.live is.starts is.hops (omega arith) is.comes

  pub all_near : AllNear setup
  all_near = record {
    sent = λ row range k device port frame start is.
        let (demand, demanded, tree) = (kept.trees plant bundles accepted (place_of device 0 frame)).each is.entry is.stands in
        let r = tree.sent port is.leaves in
        let (hop, hops) = hop_there plant device port r.receiver r.e.rx_port r.leads in
        near_after row range k device port frame hop 0 is.entry start start is.stands is.leaves is.live is.starts hops (omega arith) (no_shift start);
    arrives = arrives_near;
    delivered = λ world ranges d is.
        let w = (delivers_arrivals world).only d is in
        let range = all_at (IsInRange setup) world d.cycle w.row ranges w.in_cycle in
        subst (IsNearCycle plant d.cycle) (sym w.ends) (arrives_near w.row range w.from
        (record { cycle = d.cycle; device = d.device; port = w.port; frame = d.frame; start = w.start }) w.arrives).end;
  }
