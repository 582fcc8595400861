-- What each of all stops says of the frame.
use Rattle.std.proofs.Common.{◌≡◌, ◌*◌, ◌^◌, ◌<◌, ◌≤◌, ℕ, inl, inr, List, Option, Some, None, length, refl, sym, ◌∙◌, ap, subst, arith}
use Rattle.std.specs.Prelude.{slice_get, IfSome}
use Rattle.std.proofs.lemmas.Option.{same_Some, slice_get_within}
use Rattle.irt_base.specs.declared.blocks.Entry.{Entry}
use Rattle.irt_base.specs.declared.plants.Demand.{Demand}
use Rattle.irt_base.specs.declared.plants.Plant.{Plant}
use Rattle.irt_route.specs.Trees.{Parents}
use Rattle.plan_rules.specs.SendWindow.{SendWindow, HasWindow, at_anchor, behind}
use Rattle.plan_rules.specs.Way.{entry_at, IsAnchor, Leaves}
use Rattle.fit_rules.specs.declared.frame_plan.FramePlan.{FramePlan}
use Rattle.fit_rules.specs.Shape.{alone, entry_of, IsSentBy}
use Rattle.frame_ways.specs.declared.frame_way.Arrival.{Arrival}
use Rattle.frame_ways.specs.declared.stops.Stop.{Stop}
use Rattle.frame_ways.specs.Entries.{IsBase}
use Rattle.frame_ways.specs.Layout.{IsSmallArrival, IsUsableStop}
use Rattle.frame_ways.specs.Stops.{IsStarter, stop_window, HasStarter, MayArriveAs, AreStopsTo}
use Rattle.frame_ways.proofs.Alone.{entry_stands}
use Rattle.frame_ways.proofs.Devices.{stop_within, few_stops, small_stop}
use Rattle.frame_ways.proofs.Reached.{listed, provides}
use Rattle.frame_ways.proofs.Routed.{IsRouted, entry_tree, provider_sends}

-- the stop of a device that has an entry
pub record HasStop (plant : Plant) (base : FramePlan) (stops : List Stop) (device : ℕ) (e : Entry) : Type 0 where
  pub n : ℕ
  pub s : Stop
  pub there : slice_get stops n ≡ Some s
  pub here : s.device.0 ≡ device
  pub same : s.entry ≡ e

-- the window of a device that starts by an offset of its own
pub own_window : (plant : Plant) (base : FramePlan) (device : ℕ) (e : Entry) (w : SendWindow) → entry_at (alone plant base) device base.frame.0 ≡ Some e →
    IsAnchor (alone plant base) device e → HasWindow (alone plant base) base.frame.0 device w → w.anchor ≡ device
own_window plant base _ e _ at starts (at_anchor v f is one) = refl
own_window plant base _ e _ at starts (behind v f parent port hop w d is other comes sends hops held) =
    absurd (other (subst (IsAnchor (alone plant base) v) (same_Some e f (sym at ∙ is)) starts))

module _ (plant : Plant) (parents : Parents) (demand : Demand) (routed : IsRouted plant parents demand) (base : FramePlan) (is : IsBase plant parents demand base)
    (stops : List Stop) (are : AreStopsTo plant base stops (length stops) 0) where
  pub within : (n : ℕ) (s : Stop) → slice_get stops n ≡ Some s → s.device.0 < 64
  within n s there =
      omega (arith, stop_within plant routed.rules base (entry_tree plant parents demand base is) stops (length stops) 0 are n s there, routed.rules.device_count.1)

  pub few : length stops ≤ 64
  few = few_stops plant routed.rules base (entry_tree plant parents demand base is) stops (length stops) 0 are

  pub small : (n : ℕ) (s : Stop) → slice_get stops n ≡ Some s → s.greatest ≤ 64 * 400000
  small n s there = (small_stop plant routed.rules base (entry_tree plant parents demand base is) stops (length stops) 0 are n s there (slice_get_within stops n s there)).0

  pub alone_at : (device : ℕ) (e : Entry) → entry_of base device ≡ Some e → entry_at (alone plant base) device base.frame.0 ≡ Some e
  alone_at device e stands = entry_stands plant base device e stands ((is.shape.each device e stands).frame ∙ sym is.shape.frame)

  pub stop_of : (device : ℕ) (e : Entry) → entry_of base device ≡ Some e → HasStop plant base stops device e
  stop_of device e stands =
      let (n, s, there, here) = listed plant parents demand routed base is stops are device e stands in
      let own = (are.each n s there).stands in
      record { n = n; s = s; there = there; here = here; same = same_Some s.entry e (sym own ∙ ap (entry_of base) here ∙ stands) }

  -- the window of a stop is that of its device
  pub window_is : (n : ℕ) (s : Stop) (device : ℕ) (w : SendWindow) → slice_get stops n ≡ Some s → s.device.0 ≡ device → HasWindow (alone plant base) base.frame.0 device w →
      stop_window s ≡ w
  window_is n s device w there here sends =
      routed.windows_one (alone plant base) routed.rules base.frame.0 device (stop_window s) w
      (subst (λ d. HasWindow (alone plant base) base.frame.0 d (stop_window s)) here (are.each n s there).window) sends

  pub starter_within : (count anchor : ℕ) → HasStarter plant stops count anchor → anchor < 64
  starter_within count anchor starter = omega (arith, within starter.n starter.s starter.there, starter.here)

  pub low_bits : (n : ℕ) (s : Stop) → slice_get stops n ≡ Some s → s.entry.tx < 2 ^ 8
  low_bits n s there = (is.shape.each s.device.0 s.entry (are.each n s there).stands).small

  small_arrival : (n : ℕ) (s : Stop) (o : Option Arrival) → n < length stops → MayArriveAs plant base stops n s o → IfSome o IsSmallArrival
  small_arrival n s None less comes = tt
  small_arrival n s (Some x) less comes = omega (arith, comes.small, few, less)

  arrival_starter : (n : ℕ) (s : Stop) (o : Option Arrival) → MayArriveAs plant base stops n s o → IfSome o (λ x. HasStarter plant stops n x.anchor.0)
  arrival_starter n s None comes = tt
  arrival_starter n s (Some x) comes = comes.starter

  pub usable : (n : ℕ) (s : Stop) → slice_get stops n ≡ Some s → IsUsableStop plant stops n s
  usable n s there =
      let comes = (are.each n s there).comes in record {
        there = stop_within plant routed.rules base (entry_tree plant parents demand base is) stops (length stops) 0 are n s there;
        small = small_arrival n s s.arrival (slice_get_within stops n s there) comes;
        starter = arrival_starter n s s.arrival comes;
      }

  -- a stop of an anchor sends
  pub sends : (n : ℕ) (s : Stop) → slice_get stops n ≡ Some s → IsStarter plant s.device.0 s.entry → (port : ℕ) × Leaves s.entry port
  sends n s there (inl zeroth) =
      let stands = (are.each n s there).stands in
      let own = provides plant parents demand routed base is s.device.0 s.entry stands zeroth in
      let (port, low, sent) = provider_sends plant parents demand routed in
      (port, record { from_one = low; bit = ((is.shape.each s.device.0 s.entry stands).sent port low).1 (subst (λ d. IsSentBy parents d port) (sym own) sent) })
  sends n s there (inr (absolute, (port, leaves))) = (port, leaves)
