-- What the lists made of all stops say of the frame.
use Rattle.std.proofs.Common.{◌≡◌, ◌+◌, ◌≤◌, ℕ, inl, inr, List, Option, Some, None, length, get_or, refl, sym, ◌∙◌, ap, subst, arith}
use Rattle.std.specs.Prelude.{slice_get, filter_map, Contains, IfSome, IsBitSet}
use Rattle.std.proofs.lemmas.List.Elements.{Contains-get_or}
use Rattle.std.proofs.lemmas.Option.{same_Some, slice_get_within}
use Rattle.irt_base.specs.Cycle.{guard_time, wire_time}
use Rattle.irt_base.specs.Wiring.{peer_of, hop_of}
use Rattle.irt_base.specs.declared.blocks.Entry.{Entry}
use Rattle.irt_base.specs.declared.numbers.DevId.{DevId}
use Rattle.irt_base.specs.declared.numbers.PortNo.{PortNo}
use Rattle.irt_base.specs.declared.plants.Demand.{Demand}
use Rattle.irt_base.specs.declared.plants.Plant.{Plant}
use Rattle.irt_route.specs.Trees.{Parents}
use Rattle.irt_route.specs.Walks.{IsBestWalk}
use Rattle.link_index.specs.Index.{IsIndexOf}
use Rattle.link_index.specs.declared.index.Wire.{Wire}
use Rattle.plan_rules.specs.Frames.{IsForwarded}
use Rattle.plan_rules.specs.SendWindow.{SendWindow, HasWindow}
use Rattle.plan_rules.specs.Way.{IsAnchor, IsParent, Leaves}
use Rattle.fit_rules.specs.declared.frame_plan.FramePlan.{FramePlan}
use Rattle.fit_rules.specs.Delays.{IsDelayed}
use Rattle.fit_rules.specs.Order.{HasFarthest}
use Rattle.fit_rules.specs.Shape.{alone, entry_of}
use Rattle.placement.specs.Layouts.{IsValidSending, StandsBefore, IsUsed, IsAfter, IsAnchorAt, IsLayout}
use Rattle.placement.specs.declared.layout.After.{After}
use Rattle.placement.specs.declared.layout.Anchor.{Anchor}
use Rattle.placement.specs.declared.layout.Layout.{Layout}
use Rattle.placement.specs.declared.layout.Sending.{Sending}
use Rattle.frame_ways.specs.declared.frame_way.Arrival.{Arrival}
use Rattle.frame_ways.specs.declared.stops.Stop.{Stop}
use Rattle.frame_ways.specs.Entries.{IsBase}
use Rattle.frame_ways.specs.FrameWays.{IsSendingOf, AreSendings, IsStartedAfter, IsAnchorOf, AreAnchors, IsArrivalOf, IsValidArrival, AreArrivals, IsFrameWay}
use Rattle.frame_ways.specs.Layout.{sending_of, AreSendingsTo, HasAfter, AreAnchorsTo, IsMostHops}
use Rattle.frame_ways.specs.Stops.{IsStarter, stop_window, HasLinks, HasStarter, ArrivesAs, MayArriveAs, AreStopsTo}
use Rattle.frame_ways.proofs.Alone.{entry_from}
use Rattle.frame_ways.proofs.Bits.{leaves_low}
use Rattle.frame_ways.proofs.Devices.{device_rules}
use Rattle.frame_ways.proofs.Lists.{contains_at, place_of, given_from, given_to}
use Rattle.frame_ways.proofs.Reached.{links_one}
use Rattle.frame_ways.proofs.StopFacts.{own_window, within, few, small, alone_at, stop_of, window_is, starter_within, sends, low_bits}
use Rattle.frame_ways.proofs.Routed.{IsRouted, first_consumer, consumer_on, chain_of_walk}

module _ (plant : Plant) (parents : Parents) (demand : Demand) (routed : IsRouted plant parents demand) (base : FramePlan) (is : IsBase plant parents demand base)
    (stops : List Stop) (are : AreStopsTo plant base stops (length stops) 0) where
  -- ---- sendings

  module _ (sendings : List Sending) (sent : AreSendingsTo stops (length stops) 0 sendings) where
    sending_is : (x : Sending) → Contains sendings x → IsSendingOf plant base x
    sending_is x has =
        let b = sent.only x has in
        let stop = are.each b.n b.s b.there in
        subst (IsSendingOf plant base) (sym b.is) (record {
          e = b.s.entry;
          w = stop_window b.s;
          sends = record { stands = alone_at plant parents demand routed base is stops are b.s.device.0 b.s.entry stop.stands; leaves = b.leaves; sends = stop.window };
          hangs = refl;
          lo = refl;
          hi = refl;
        })

    sendings_all : (anchor device port least greatest : ℕ) → IsDelayed plant base anchor device port least greatest →
        (s : Sending) × Contains sendings s × (s.anchor.0 ≡ anchor) × (s.device.0 ≡ device) × (s.port.0 ≡ port) × (s.least ≡ least) × (s.greatest ≡ greatest)
    sendings_all anchor device port least greatest d =
        let t = stop_of plant parents demand routed base is stops are device d.e (entry_from plant base device d.e d.sends.stands) in
        let same = window_is plant parents demand routed base is stops are t.n t.s device d.w t.there t.here d.sends.sends in
        let leaves = subst (λ (e : Entry). Leaves e port) (sym t.same) d.sends.leaves in (
          sending_of t.s port,
          sent.all t.n port t.s t.there (inl (slice_get_within stops t.n t.s t.there)) leaves,
          ap (λ (w : SendWindow). w.anchor) same ∙ d.hangs,
          t.here,
          refl,
          ap (λ (w : SendWindow). w.lo) same ∙ d.lo,
          ap (λ (w : SendWindow). w.hi) same ∙ d.hi,
        )

    pub are_sendings : (wire : ℕ) (anchors : List Anchor) → AreSendings plant base (record { wire = wire; anchors = anchors; sendings = sendings })
    are_sendings wire anchors = record { only = sending_is; all = sendings_all }

    valid_sending : (x : Sending) → Contains sendings x → IsValidSending x
    valid_sending x has =
        let b = sent.only x has in
        let stop = are.each b.n b.s b.there in
        subst IsValidSending (sym b.is) (record {
          anchor = starter_within plant parents demand routed base is stops are (b.n + 1) b.s.anchor.0 stop.starter;
          device = within plant parents demand routed base is stops are b.n b.s b.there;
          port = omega (arith, leaves_low b.s.entry b.by (low_bits plant parents demand routed base is stops are b.n b.s b.there) b.leaves);
          ordered = stop.ordered;
          small = omega (arith, small plant parents demand routed base is stops are b.n b.s b.there);
        })

  -- ---- anchors

  module _ (anchors : List Anchor) (anchored : AreAnchorsTo plant stops (length stops) anchors) where
    started : (n : ℕ) (s : Stop) (device : ℕ) (o : Option After) → slice_get stops n ≡ Some s → s.device.0 ≡ device → HasAfter plant s o →
        IsStartedAfter plant base device s.entry o
    started n s device None there here none = subst (MayArriveAs plant base stops n s) none (are.each n s there).comes
    started n s device (Some f) there here (x, d, comes, held, same, gap) =
        let c : ArrivesAs plant base stops n s x = subst (MayArriveAs plant base stops n s) comes (are.each n s there).comes in (
          c.comes.comes.received,
          record {
            e = s.entry;
            hop = c.hop;
            w = c.w;
            d = d;
            comes = subst (λ v. IsForwarded (alone plant base) v base.frame.0 s.entry c.hop c.w) here c.comes;
            held = subst (λ v. slice_get plant.devices v ≡ Some d) here held;
            hangs = c.hangs ∙ ap (λ (a : DevId). a.0) (sym same);
            is = gap ∙ ap (λ latest. latest + d.bmax + guard_time plant.window) c.is;
          },
        )

    anchor_is : (a : Anchor) → Contains anchors a → IsAnchorOf plant base a
    anchor_is a has =
        let (k, at) = place_of anchors a has in
        let b = anchored.only k a at in
        let here : b.s.device.0 ≡ a.device.0 = ap (λ (v : DevId). v.0) (sym b.device) in record {
          e = b.s.entry;
          stands = subst (λ v. entry_of base v ≡ Some b.s.entry) here (are.each b.n b.s b.there).stands;
          starts = subst (λ v. IsAnchor (alone plant base) v b.s.entry) here b.starts;
          after = started b.n b.s a.device.0 a.after b.there here b.after;
        }

    anchors_all : (device : ℕ) (e : Entry) → entry_of base device ≡ Some e → IsAnchor (alone plant base) device e →
        (a : Anchor) × Contains anchors a × (a.device.0 ≡ device)
    anchors_all device e stands starts =
        let t = stop_of plant parents demand routed base is stops are device e stands in
        let starter : IsStarter plant t.s.device.0 t.s.entry =
        subst (λ v. IsStarter plant v t.s.entry) (sym t.here) (subst (λ (f : Entry). IsStarter plant device f) (sym t.same) starts) in
        let (m, a, less, at, same) = anchored.all t.n t.s t.there (slice_get_within stops t.n t.s t.there) starter in
        (a, contains_at anchors m a at, same ∙ t.here)

    pub are_anchors : (wire : ℕ) (sendings : List Sending) → AreAnchors plant base (record { wire = wire; anchors = anchors; sendings = sendings })
    are_anchors wire sendings = record { only = anchor_is; all = anchors_all }

    after_small : (n : ℕ) (s : Stop) (f : After) → slice_get stops n ≡ Some s → HasAfter plant s (Some f) → IsAfter f
    after_small n s f there (x, d, comes, held, same, gap) =
        let c : ArrivesAs plant base stops n s x = subst (MayArriveAs plant base stops n s) comes (are.each n s there).comes in
        let bridge : d.bmax ≤ 100000 = (device_rules plant routed.rules s.device.0 d held).bridge in
        let less = slice_get_within stops n s there in record {
          anchor = omega (arith, starter_within plant parents demand routed base is stops are n x.anchor.0 c.starter, ap (λ (a : DevId). a.0) same);
          gap = omega (arith, gap, c.small, bridge, few plant parents demand routed base is stops are, less, routed.rules.window);
        }

    -- the anchor of a stop stands among all
    stands_for : (count anchor : ℕ) → HasStarter plant stops count anchor → StandsBefore anchors (length anchors) anchor
    stands_for count anchor starter =
        subst (StandsBefore anchors (length anchors)) starter.here
        (anchored.all starter.n starter.s starter.there (slice_get_within stops starter.n starter.s starter.there) starter.starts)

    module _ (sendings : List Sending) (sent : AreSendingsTo stops (length stops) 0 sendings) (wire : ℕ) where
      abbrev layout : Layout
      layout = record { wire = wire; anchors = anchors; sendings = sendings }

      used : (k : ℕ) (a : Anchor) → slice_get anchors k ≡ Some a → IsUsed layout a.device.0
      used k a at =
          let b = anchored.only k a at in
          let stop = are.each b.n b.s b.there in
          let (port, leaves) = sends plant parents demand routed base is stops are b.n b.s b.there b.starts in
          let home = own_window plant base b.s.device.0 b.s.entry (stop_window b.s) (alone_at plant parents demand routed base is stops are b.s.device.0 b.s.entry stop.stands) b.starts stop.window in
          (sending_of b.s port, sent.all b.n port b.s b.there (inl b.before) leaves, home ∙ ap (λ (v : DevId). v.0) (sym b.device))

      anchor_at : (k : ℕ) (a : Anchor) → slice_get anchors k ≡ Some a → IsAnchorAt layout k a
      anchor_at k a at =
          let b = anchored.only k a at in record {
            device = omega (arith, within plant parents demand routed base is stops are b.n b.s b.there, ap (λ (v : DevId). v.0) b.device);
            used = used k a at;
            after = λ f waits. (
              subst (λ (o : Option After). IfSome o (λ (g : After). StandsBefore anchors k g.anchor.0)) waits b.starter,
              after_small b.n b.s f b.there (subst (HasAfter plant b.s) waits b.after),
            );
          }

      pub is_layout : 1 ≤ wire → wire ≤ 268435456 → IsLayout layout
      is_layout some most = record {
        wire = (some, most);
        sendings = λ k d less. valid_sending sendings sent (get_or sendings k d) (Contains-get_or sendings k d less);
        directions = sent.apart;
        anchors = anchor_at;
        hangs = λ x has.
            let b = sent.only x has in
            subst (λ (y : Sending). StandsBefore anchors (length anchors) y.anchor.0) (sym b.is)
            (stands_for (b.n + 1) b.s.anchor.0 (are.each b.n b.s b.there).starter);
        once = anchored.once;
      }

  -- ---- arrivals

  module _ (arrivals : List Arrival) (arrived : arrivals ≡ filter_map (λ (s : Stop). s.arrival) stops) where
    came : (x : Arrival) → Contains arrivals x → (k : ℕ) × (s : Stop) × (slice_get stops k ≡ Some s) × ArrivesAs plant base stops k s x
    came x has =
        let (n, at) = place_of arrivals x has in
        let (k, s, there, gives) = given_from (λ (t : Stop). t.arrival) stops n x (ap (λ xs. slice_get xs n) (sym arrived) ∙ at) in
        (k, s, there, subst (MayArriveAs plant base stops k s) gives (are.each k s there).comes)

    arrival_is : (x : Arrival) → Contains arrivals x → IsArrivalOf plant base x
    arrival_is x has =
        let (k, s, there, c) = came x has in record {
          e = s.entry;
          hop = c.hop;
          w = c.w;
          comes = subst (λ (v : DevId). IsForwarded (alone plant base) v.0 base.frame.0 s.entry c.hop c.w) (sym c.device) c.comes;
          here = c.here;
          hangs = c.hangs;
          is = c.is;
        }

    -- two arrivals at one device are one
    coming_is : (n : ℕ) (s : Stop) (x : Arrival) (device : ℕ) (e : Entry) (hop : ℕ) (w : SendWindow) → ArrivesAs plant base stops n s x → s.device.0 ≡ device → s.entry ≡ e →
        IsForwarded (alone plant base) device base.frame.0 e hop w → (x.anchor.0 ≡ w.anchor) × (x.latest ≡ w.hi + hop)
    coming_is n s x device e hop w c here same forwarded =
        let comes : IsParent (alone plant base) base.frame.0 device e c.comes.parent c.comes.port =
        subst (λ v. IsParent (alone plant base) base.frame.0 v e c.comes.parent c.comes.port) here
        (subst (λ (f : Entry). IsParent (alone plant base) base.frame.0 s.device.0 f c.comes.parent c.comes.port) same c.comes.comes) in
        let (parent, port) = routed.parents_one (alone plant base) routed.rules base.frame.0 device e c.comes.parent c.comes.port forwarded.parent forwarded.port
        comes forwarded.comes in
        let window = routed.windows_one (alone plant base) routed.rules base.frame.0 forwarded.parent c.w w
        (subst (λ v. HasWindow (alone plant base) base.frame.0 v c.w) parent c.comes.sends) forwarded.sends in
        let hops : c.hop ≡ hop = same_Some c.hop hop (sym c.comes.hops ∙ (λ i. hop_of plant (parent i) (port i)) ∙ forwarded.hops) in
        (sym c.hangs ∙ ap (λ (v : SendWindow). v.anchor) window, c.is ∙ (λ i. (window i).hi + hops i))

    arrival_at : (device : ℕ) (e : Entry) (hop : ℕ) (w : SendWindow) (n : ℕ) (s : Stop) → IsForwarded (alone plant base) device base.frame.0 e hop w →
        slice_get stops n ≡ Some s → s.device.0 ≡ device → s.entry ≡ e → (o : Option Arrival) → s.arrival ≡ o → MayArriveAs plant base stops n s o →
        (x : Arrival) × Contains arrivals x × (x.device.0 ≡ device) × (x.port.0 ≡ e.rx_port) × (x.anchor.0 ≡ w.anchor) × (x.latest ≡ w.hi + hop)
    arrival_at device e hop w n s forwarded there here same None gives zeroth =
        absurd (omega (arith, forwarded.comes.received, zeroth, ap (λ (f : Entry). f.rx_port) same))
    arrival_at device e hop w n s forwarded there here same (Some x) gives c =
        let (m, at) = given_to (λ (t : Stop). t.arrival) stops n s x there gives in
        let (anchor, latest) = coming_is n s x device e hop w c here same forwarded in (
          x,
          contains_at arrivals m x (ap (λ xs. slice_get xs m) arrived ∙ at),
          ap (λ (v : DevId). v.0) c.device ∙ here,
          sym c.here ∙ ap (λ (f : Entry). f.rx_port) same,
          anchor,
          latest,
        )

    arrivals_all : (device : ℕ) (e : Entry) (hop : ℕ) (w : SendWindow) → IsForwarded (alone plant base) device base.frame.0 e hop w →
        (x : Arrival) × Contains arrivals x × (x.device.0 ≡ device) × (x.port.0 ≡ e.rx_port) × (x.anchor.0 ≡ w.anchor) × (x.latest ≡ w.hi + hop)
    arrivals_all device e hop w forwarded =
        let t = stop_of plant parents demand routed base is stops are device e (entry_from plant base device e forwarded.stands) in
        arrival_at device e hop w t.n t.s forwarded t.there t.here t.same t.s.arrival refl (are.each t.n t.s t.there).comes

    valid_arrival : (rows : List (List (Option Wire))) → IsIndexOf plant rows → (x : Arrival) → Contains arrivals x → IsValidArrival x
    valid_arrival rows index x has =
        let (k, s, there, c) = came x has in
        let back = routed.both c.comes.parent c.comes.port s.device.0 s.entry.rx_port c.comes.comes.leads in
        let port = (index.within s.device.0 s.entry.rx_port _ back).1 in record {
          device = omega (arith, within plant parents demand routed base is stops are k s there, ap (λ (v : DevId). v.0) c.device);
          port = (omega (arith, c.comes.comes.received, c.here), omega (arith, port, c.here));
          anchor = starter_within plant parents demand routed base is stops are k x.anchor.0 c.starter;
          small = omega (arith, c.small, few plant parents demand routed base is stops are, slice_get_within stops k s there);
        }

    pub are_arrivals : (rows : List (List (Option Wire))) → IsIndexOf plant rows → (layout : Layout) (hops : ℕ) →
        AreArrivals plant (record { frame = base.frame; entries = base.entries; layout = layout; arrivals = arrivals; hops = hops })
    are_arrivals rows index layout hops = record {
      only = arrival_is;
      all = arrivals_all;
      valid = λ k d less. valid_arrival rows index (get_or arrivals k d) (Contains-get_or arrivals k d less);
    }

  -- ---- the farthest consumer

  -- the stop of a consumer, as far as the best walk
  hops_is : (n : ℕ) (s : Stop) (c : DevId) (ports : List PortNo) → slice_get stops n ≡ Some s → s.device.0 ≡ c.0 → Contains demand.consumers c →
      IsBestWalk (peer_of plant) demand.provider.0 ports c.0 → s.hops ≡ length ports
  hops_is n s c ports there here has best =
      links_one plant parents demand routed base is s.hops (length ports) c.0
      (subst (HasLinks (alone plant base) base.frame.0 s.hops) here (are.each n s there).links) (chain_of_walk plant parents demand routed c has ports best)

  consumer_stop : (c : DevId) → Contains demand.consumers c → (n : ℕ) × (s : Stop) × (slice_get stops n ≡ Some s) × (s.device.0 ≡ c.0) × IsBitSet s.entry.tx 0
  consumer_stop c has =
      let (e, stands) = is.shape.full c.0 (consumer_on plant parents demand routed c has) in
      let t = stop_of plant parents demand routed base is stops are c.0 e stands in
      (t.n, t.s, t.there, t.here, subst (λ (f : Entry). IsBitSet f.tx 0) (sym t.same) ((is.shape.each c.0 e stands).kept.1 has))

  pub is_farthest : (hops : ℕ) → IsMostHops stops hops → HasFarthest plant demand hops
  is_farthest hops most = record {
    bound = λ c n has far.
        let (k, s, there, here, bit) = consumer_stop c has in
        let same = hops_is k s c far.ports there here has far.best in
        omega (arith, most.bound s.hops (s, contains_at stops k s there, bit, refl), same, far.long);
    some = elim most.some [
      | inl zeroth ↦
          let (c, has) = first_consumer plant parents demand routed in
          let (ports, best) = routed.tree.reached c.0 (c, has, refl) in
          let (k, s, there, here, bit) = consumer_stop c has in
          let same = hops_is k s c ports there here has best in
          let low = most.bound s.hops (s, contains_at stops k s there, bit, refl) in
          (c, has, record { ports = ports; best = best; long = omega (arith, same, low, zeroth) })
      | inr (s, has, bit, same) ↦
          let (k, there) = place_of stops s has in
          let c : DevId = record { 0 = s.device.0 } in
          let consumes = (is.shape.each s.device.0 s.entry (are.each k s there).stands).kept.0 bit in
          let (ports, best) = routed.tree.reached c.0 (c, consumes, refl) in
          (c, consumes, record { ports = ports; best = best; long = sym (hops_is k s c ports there refl consumes best) ∙ same })
    ];
  }

  -- ---- the whole

  pub frame_way : (rows : List (List (Option Wire))) → IsIndexOf plant rows → (wire hops : ℕ) (anchors : List Anchor) (sendings : List Sending) (arrivals : List Arrival) →
      wire ≡ wire_time demand.length → AreAnchorsTo plant stops (length stops) anchors → AreSendingsTo stops (length stops) 0 sendings →
      arrivals ≡ filter_map (λ (s : Stop). s.arrival) stops → IsMostHops stops hops →
      IsFrameWay plant parents demand (record {
        frame = base.frame;
        entries = base.entries;
        layout = record { wire = wire; anchors = anchors; sendings = sendings };
        arrivals = arrivals;
        hops = hops;
      })
  frame_way rows index wire hops anchors sendings arrivals long anchored sent arrived most =
      let bytes = routed.valid.length.0 in record {
        shape = is.shape;
        zero = is.zero;
        layout = is_layout anchors anchored sendings sent wire (omega (arith, long, bytes.0)) (omega (arith, long, bytes.1));
        wire = long;
        sendings = are_sendings sendings sent wire anchors;
        anchors = are_anchors anchors anchored wire sendings;
        arrivals = are_arrivals arrivals arrived rows index (record { wire = wire; anchors = anchors; sendings = sendings }) hops;
        far = is_farthest hops most;
      }
