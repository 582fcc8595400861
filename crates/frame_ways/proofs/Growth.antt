-- The list of stops, as it grows.
use Rattle.std.proofs.Common.{◌≡◌, ◌≢◌, ◌+◌, ◌*◌, ◌<◌, ◌≤◌, ◌++◌, ◌∷◌, [], ℕ, zero, suc, inl, inr, List, Option, Some, None, length, get_or, refl, sym, ◌∙◌, ap, subst, arith}
use Rattle.std.specs.Prelude.{slice_get}
use Rattle.std.proofs.lemmas.List.{length_push}
use Rattle.std.proofs.lemmas.List.Quantifiers.{all_pairs_push}
use Rattle.std.proofs.lemmas.Option.{same_Some, slice_get_within, slice_get-get_or}
use Rattle.irt_base.specs.Wiring.{peer_of}
use Rattle.irt_base.specs.declared.blocks.Entry.{Entry}
use Rattle.irt_base.specs.declared.numbers.DevId.{DevId}
use Rattle.irt_base.specs.declared.numbers.PortNo.{PortNo}
use Rattle.irt_base.specs.declared.plants.Plant.{Plant}
use Rattle.plan_rules.specs.SendWindow.{HasWindow, at_anchor, behind}
use Rattle.plan_rules.specs.Way.{Setup, entry_at, Leaves, IsAnchor, IsParent}
use Rattle.fit_rules.specs.declared.frame_plan.FramePlan.{FramePlan}
use Rattle.fit_rules.specs.Shape.{alone, entry_of}
use Rattle.frame_ways.specs.declared.frame_way.Arrival.{Arrival}
use Rattle.frame_ways.specs.declared.stops.Stop.{Stop}
use Rattle.frame_ways.specs.Stops.{IsEntryTree, IsListed, IsAdded, IsFirstStop, IsNextStop, stop_window, HasLinks, HasStarter, ArrivesAs, MayArriveAs, IsStopAt, Precedes, AreStopsTo}
use Rattle.frame_ways.proofs.Alone.{entry_stands}
use Rattle.frame_ways.proofs.Lists.{get_more, get_kept, get_last}
use Rattle.frame_ways.proofs.Sent.{port_more}

abbrev Apart : Stop → Stop → Type 0
Apart s t = s.device.0 ≢ t.device.0

-- the window of a device that starts by an offset 0
window_own : (setup : Setup) (frame : ℕ) (s : Stop) → entry_at setup s.device.0 frame ≡ Some s.entry → IsAnchor setup s.device.0 s.entry → s.entry.send_offset ≡ 0 →
    s.anchor ≡ s.device → s.least ≡ 0 → s.greatest ≡ 0 → HasWindow setup frame s.device.0 (stop_window s)
window_own setup frame s at starts zeroth anchor least greatest =
    let low : s.entry.send_offset ≡ s.least = zeroth ∙ sym least in
    let high : s.entry.send_offset ≡ s.greatest = zeroth ∙ sym greatest in
    let own : s.device ≡ s.anchor = sym anchor in
    subst (HasWindow setup frame s.device.0) (λ i. record { lo = low i; hi = high i; anchor = (own i).0 }) (at_anchor s.device.0 s.entry at starts)

-- stops that are there stay as they are
starter_kept : (plant : Plant) (stops : List Stop) (new : Stop) (count more anchor : ℕ) → count ≤ more → HasStarter plant stops count anchor →
    HasStarter plant (stops ++ new ∷ []) more anchor
starter_kept plant stops new count more anchor up is =
    record { n = is.n; s = is.s; before = omega (arith, is.before); there = get_kept stops new is.n is.s is.there; here = is.here; starts = is.starts }

comes_kept : (plant : Plant) (base : FramePlan) (stops : List Stop) (new : Stop) (n : ℕ) (s : Stop) (o : Option Arrival) → MayArriveAs plant base stops n s o →
    MayArriveAs plant base (stops ++ new ∷ []) n s o
comes_kept plant base stops new n s None is = is
comes_kept plant base stops new n s (Some x) is = record {
  hop = is.hop;
  w = is.w;
  device = is.device;
  comes = is.comes;
  here = is.here;
  hangs = is.hangs;
  is = is.is;
  starter = starter_kept plant stops new n n x.anchor.0 (omega arith) is.starter;
  small = is.small;
}

stop_kept : (plant : Plant) (base : FramePlan) (stops : List Stop) (new : Stop) (n : ℕ) (s : Stop) → IsStopAt plant base stops n s →
    IsStopAt plant base (stops ++ new ∷ []) n s
stop_kept plant base stops new n s is = record {
  stands = is.stands;
  window = is.window;
  ordered = is.ordered;
  small = is.small;
  links = is.links;
  few = is.few;
  starter = starter_kept plant stops new (n + 1) (n + 1) s.anchor.0 (omega arith) is.starter;
  comes = comes_kept plant base stops new n s s.arrival is.comes;
}

listed_kept : (stops : List Stop) (new : Stop) (device : ℕ) → IsListed stops device → IsListed (stops ++ new ∷ []) device
listed_kept stops new device (n, s, there, here) = (n, s, get_kept stops new n s there, here)

pub added_there : (s : Stop) (old new : List Stop) (at : ℕ) → at < length old → IsAdded s old new → at < length new
added_there s old new at within (inl (fresh, is)) = omega (arith, within, ap (λ (xs : List Stop). length xs) is, length_push old s)
added_there s old new at within (inr (listed, is)) = omega (arith, within, ap (λ (xs : List Stop). length xs) is)

module _ (plant : Plant) (base : FramePlan) (tree : IsEntryTree plant base) where
  -- the entry of a device, beside no other frame
  stands_alone : (device : ℕ) (e : Entry) → entry_of base device ≡ Some e → entry_at (alone plant base) device base.frame.0 ≡ Some e
  stands_alone device e is = entry_stands plant base device e is (tree.frames device e is)

  -- the provider's stop alone
  pub first_stops : (provider : DevId) (s : Stop) → IsFirstStop base provider s → AreStopsTo plant base (s ∷ []) 0 0
  first_stops provider s first =
      let stands : entry_of base s.device.0 ≡ Some s.entry = subst (λ (d : DevId). entry_of base d.0 ≡ Some s.entry) (sym first.device) first.stands in
      let own = stands_alone s.device.0 s.entry stands in
      let home : s.anchor ≡ s.device = first.anchor ∙ sym first.device in
      record {
        each = λ n t at. alone_first s stands own home first n t at;
        apart = λ i j d less within. absurd (omega (arith, less, within));
        first = (s, refl, first.provided);
        next = λ n by t far there before. elim before [ inl less ↦ absurd (omega (arith, less)) | inr here ↦ absurd (omega (arith, here.1)) ];
      }
    where
      own_stop : (s : Stop) → entry_of base s.device.0 ≡ Some s.entry → entry_at (alone plant base) s.device.0 base.frame.0 ≡ Some s.entry → s.anchor ≡ s.device →
          IsFirstStop base provider s → IsStopAt plant base (s ∷ []) 0 s
      own_stop s stands own home first = record {
        stands = stands;
        window = window_own (alone plant base) base.frame.0 s own (inl first.provided) (tree.zero s.device.0 s.entry stands) home first.least first.greatest;
        ordered = omega (arith, first.least, first.greatest);
        small = omega (arith, first.greatest);
        links = subst (λ n. HasLinks (alone plant base) base.frame.0 n s.device.0) (sym first.hops) (s.entry, own, first.provided);
        few = omega (arith, first.hops);
        starter = record { n = 0; s = s; before = omega arith; there = refl; here = ap (λ (d : DevId). d.0) (sym home); starts = inl first.provided };
        comes = subst (MayArriveAs plant base (s ∷ []) 0 s) (sym first.arrival) first.provided;
      }

      alone_first : (s : Stop) → entry_of base s.device.0 ≡ Some s.entry → entry_at (alone plant base) s.device.0 base.frame.0 ≡ Some s.entry → s.anchor ≡ s.device →
          IsFirstStop base provider s → (n : ℕ) (t : Stop) → slice_get (s ∷ []) n ≡ Some t → IsStopAt plant base (s ∷ []) n t
      alone_first s stands own home first zero t at = subst (IsStopAt plant base (s ∷ []) 0) (same_Some s t at) (own_stop s stands own home first)
      alone_first s stands own home first (suc n) t at = absurd cc

  module _ (stops : List Stop) (at port : ℕ) (stop : Stop) (are : AreStopsTo plant base stops at port) (there : slice_get stops at ≡ Some stop) where
    -- the frame comes to the next stop from this one
    parent_of : Leaves stop.entry port → (s : Stop) → IsNextStop plant base stop port s → IsParent (alone plant base) base.frame.0 s.device.0 s.entry stop.device.0 port
    parent_of leaves s next = record {
      received = omega (arith, next.here, next.from_one);
      sent = (stop.entry, stands_alone stop.device.0 stop.entry (are.each at stop there).stands, leaves);
      leads = next.over ∙ (λ i. Some (record { 0 = (sym next.behind.device i).0 }, record { 0 = sym next.here i }));
    }

    stands_next : (s : Stop) → IsNextStop plant base stop port s → entry_of base s.device.0 ≡ Some s.entry
    stands_next s next = subst (λ (d : DevId). entry_of base d.0 ≡ Some s.entry) (sym next.behind.device) next.stands

    window_next : Leaves stop.entry port → (s : Stop) (next : IsNextStop plant base stop port s) → HasWindow (alone plant base) base.frame.0 s.device.0 (stop_window s)
    window_next leaves s next =
        let stands = stands_next s next in
        let own = stands_alone s.device.0 s.entry stands in
        elim next.behind.starts [
          | inl starts ↦ window_own (alone plant base) base.frame.0 s own starts.starts (tree.zero s.device.0 s.entry stands) starts.anchor starts.least starts.greatest
          | inr later ↦
              let low = sym later.least in
              let high = sym later.greatest in
              let home = sym later.anchor in
              subst (HasWindow (alone plant base) base.frame.0 s.device.0) (λ i. record { lo = low i; hi = high i; anchor = (home i).0 })
              (behind s.device.0 s.entry stop.device.0 port next.hop (stop_window stop) later.d own later.relays (parent_of leaves s next) (are.each at stop there).window next.hops later.held)
        ]

    bounds_next : (s : Stop) → at < length stops → (next : IsNextStop plant base stop port s) → (s.least ≤ s.greatest) × (s.greatest ≤ length stops * 400000)
    bounds_next s within next =
        let from = are.each at stop there in
        elim next.behind.starts [
          | inl starts ↦ (omega (arith, starts.least, starts.greatest), omega (arith, starts.greatest))
          | inr later ↦ (
            omega (arith, later.least, later.greatest, later.ordered, from.ordered),
            omega (arith, later.greatest, later.small, next.near, from.small, within),
          )
        ]

    starter_next : (s : Stop) → at < length stops → (next : IsNextStop plant base stop port s) → HasStarter plant (stops ++ s ∷ []) (length stops + 1) s.anchor.0
    starter_next s within next = elim next.behind.starts [
      | inl starts ↦
          record { n = length stops; s = s; before = omega arith; there = get_last stops s; here = ap (λ (d : DevId). d.0) (sym starts.anchor); starts = starts.starts }
      | inr later ↦
          subst (λ (d : DevId). HasStarter plant (stops ++ s ∷ []) (length stops + 1) d.0) (sym later.anchor)
          (starter_kept plant stops s (at + 1) (length stops + 1) stop.anchor.0 (omega arith) (are.each at stop there).starter)
    ]

    coming_next : Leaves stop.entry port → (s : Stop) → at < length stops → (next : IsNextStop plant base stop port s) →
        ArrivesAs plant base (stops ++ s ∷ []) (length stops) s next.x
    coming_next leaves s within next =
        let from = are.each at stop there in record {
          hop = next.hop;
          w = stop_window stop;
          device = sym next.behind.device;
          comes = record {
            parent = stop.device.0;
            port = port;
            stands = stands_alone s.device.0 s.entry (stands_next s next);
            comes = parent_of leaves s next;
            hops = next.hops;
            sends = from.window;
          };
          here = next.here;
          hangs = ap (λ (d : DevId). d.0) (sym next.anchor);
          is = next.latest;
          starter = subst (λ (d : DevId). HasStarter plant (stops ++ s ∷ []) (length stops) d.0) (sym next.anchor)
              (starter_kept plant stops s (at + 1) (length stops) stop.anchor.0 (omega arith) from.starter);
          small = omega (arith, next.latest, next.near, from.small, within);
        }

    new_stop : Leaves stop.entry port → (s : Stop) → at < length stops → (next : IsNextStop plant base stop port s) →
        IsStopAt plant base (stops ++ s ∷ []) (length stops) s
    new_stop leaves s within next =
        let from = are.each at stop there in
        let stands = stands_next s next in
        let bounds = bounds_next s within next in
        let one_more : suc stop.hops ≡ s.hops = omega (arith, next.behind.hops) in record {
          stands = stands;
          window = window_next leaves s next;
          ordered = bounds.0;
          small = bounds.1;
          links = subst (λ n. HasLinks (alone plant base) base.frame.0 n s.device.0) one_more
              (s.entry, stop.device.0, port, stands_alone s.device.0 s.entry stands, parent_of leaves s next, from.links);
          few = omega (arith, from.few, within, next.behind.hops);
          starter = starter_next s within next;
          comes = subst (MayArriveAs plant base (stops ++ s ∷ []) (length stops) s) (sym next.behind.arrival) (coming_next leaves s within next);
        }

    -- the far end of the port is the next stop's device
    far_next : (s : Stop) → IsNextStop plant base stop port s → (far : DevId × PortNo) → peer_of plant stop.device.0 port ≡ Some far → s.device.0 ≡ far.0.0
    far_next s next far over =
        let same = same_Some (next.x.device, next.x.port) far (sym next.over ∙ over) in
        ap (λ (d : DevId). d.0) next.behind.device ∙ ap (λ (x : DevId × PortNo). x.0.0) same

    -- a port is done, where its far end is listed among stops of which the old ones are the first
    far_done : (new : List Stop) → ((device : ℕ) → IsListed stops device → IsListed new device) →
        (Leaves stop.entry port → (far : DevId × PortNo) → peer_of plant stop.device.0 port ≡ Some far → IsListed new far.0.0) →
        (n by : ℕ) (t : Stop) (far : DevId × PortNo) → slice_get stops n ≡ Some t → Precedes n by at (port + 1) → Leaves t.entry by →
        peer_of plant t.device.0 by ≡ Some far → IsListed new far.0.0
    far_done new grows now n by t far stands before leaves over = elim (port_more n by at port before) [
      | inl old ↦ grows far.0.0 (are.next n by t far stands old leaves over)
      | inr here ↦
          let same : t ≡ stop = same_Some t stop (sym stands ∙ ap (slice_get stops) here.0 ∙ there) in
          now (subst (λ (x : Stop). Leaves x.entry port) same (subst (Leaves t.entry) here.1 leaves)) far
          (subst (λ (x : Stop). peer_of plant x.device.0 port ≡ Some far) same (subst (λ p. peer_of plant t.device.0 p ≡ Some far) here.1 over))
    ]

    pub stop_added : Leaves stop.entry port → (s : Stop) → IsNextStop plant base stop port s → ¬ IsListed stops s.device.0 → AreStopsTo plant base (stops ++ s ∷ []) at (port + 1)
    stop_added leaves s next fresh =
        let within = slice_get_within stops at stop there in record {
          each = λ n t stands. elim (get_more stops s n t stands) [
            | inl old ↦ stop_kept plant base stops s n t (are.each n t old)
            | inr last ↦ subst (λ k. IsStopAt plant base (stops ++ s ∷ []) k t) (sym last.0)
                (subst (IsStopAt plant base (stops ++ s ∷ []) (length stops)) last.1 (new_stop leaves s within next))
          ];
          apart = all_pairs_push Apart stops s are.apart (λ k d low same. fresh (k, get_or stops k d, slice_get-get_or stops k d low, same));
          first = (are.first.0, get_kept stops s 0 are.first.0 are.first.1, are.first.2);
          next = λ n by t far stands before out over. elim (get_more stops s n t stands) [
            | inl old ↦ far_done (stops ++ s ∷ []) (listed_kept stops s)
                (λ _ end leads. (length stops, s, get_last stops s, far_next s next end leads)) n by t far old before out over
            | inr last ↦ absurd (elim before [ inl less ↦ omega (arith, less, last.0) | inr here ↦ omega (arith, here.0, last.0) ])
          ];
        }

    pub stop_listed : (s : Stop) → IsNextStop plant base stop port s → IsListed stops s.device.0 → AreStopsTo plant base stops at (port + 1)
    stop_listed s next (m, old, at_m, same) = record {
      each = are.each;
      apart = are.apart;
      first = are.first;
      next = far_done stops (λ device is. is) (λ _ end leads. (m, old, at_m, same ∙ far_next s next end leads));
    }

    pub stop_skipped : ¬ Leaves stop.entry port → AreStopsTo plant base stops at (port + 1)
    stop_skipped stays = record {
      each = are.each;
      apart = are.apart;
      first = are.first;
      next = far_done stops (λ device is. is) (λ out end leads. absurd (stays out));
    }

    pub stop_grown : Leaves stop.entry port → (s : Stop) → IsNextStop plant base stop port s → (new : List Stop) → IsAdded s stops new →
        AreStopsTo plant base new at (port + 1)
    stop_grown leaves s next new (inl (fresh, is)) = subst (λ xs. AreStopsTo plant base xs at (port + 1)) (sym is) (stop_added leaves s next fresh)
    stop_grown leaves s next new (inr (old, is)) = subst (λ xs. AreStopsTo plant base xs at (port + 1)) (sym is) (stop_listed s next old)
