-- Where the tables leave room for an anchor's sendings, the placed frames do.
use Rattle.std.proofs.Common.{◌≡◌, ℕ, ◌+◌, ◌<◌, ◌≤◌, ◌⊎◌, inl, inr, List, Some, sym, subst, arith}
use Rattle.std.specs.Prelude.{Contains, slice_index_or}
use Rattle.std.proofs.lemmas.List.Elements.{All-contains, Contains-get_or}
use Rattle.irt_base.specs.Cycle.{wire_time, guard_time}
use Rattle.irt_base.specs.Valid.{IsRate}
use Rattle.irt_base.specs.declared.limits.TheConstants.{PHASES}
use Rattle.irt_base.specs.declared.blocks.Entry.{Entry}
use Rattle.irt_base.specs.declared.plants.Demand.{Demand}
use Rattle.irt_base.specs.declared.plants.Plant.{Plant}
use Rattle.irt_base.proofs.CycleLemmas.{shares_phase}
use Rattle.irt_route.specs.Trees.{Parents}
use Rattle.plan_rules.specs.SendWindow.{SendWindow, slack_time}
use Rattle.fit_rules.specs.declared.frame_plan.FramePlan.{FramePlan}
use Rattle.fit_rules.specs.Delays.{HasRoomAt, AreRoomyAt}
use Rattle.fit_rules.specs.Shape.{entry_of}
use Rattle.gap_table.specs.Slots.{IsClear}
use Rattle.gap_table.specs.declared.slot.Slot.{Slot}
use Rattle.placement.specs.Layouts.{IsValidSending, slot_of}
use Rattle.placement.specs.Placings.{IsFitting, IsOpen, rate_of}
use Rattle.placement.specs.Tables.{IsPlace, table_at}
use Rattle.placement.specs.declared.layout.Sending.{Sending}
use Rattle.frame_ways.specs.FrameWays.{base_of, IsFrameWay}
use Rattle.frame_ways.specs.declared.frame_way.FrameWay.{FrameWay}
use Rattle.planner.specs.Placed.{limits_of, slot_in, HoldsPlans}
use Rattle.planner.proofs.Entries.{entry_from}

-- the placed frames have ratios, and phases in them
abbrev pub AreRated : List FramePlan → Type 0
AreRated placed = (plan : FramePlan) (device : ℕ) (e : Entry) → Contains placed plan → entry_of plan device ≡ Some e → IsRate e.ratio e.phase

with_wire : (time wire same slack limit : ℕ) → wire ≡ same → time + same + slack ≤ limit → time + wire + slack ≤ limit
with_wire time wire same slack limit is ends = omega arith

module _ (plant : Plant) (parents : Parents) (demand : Demand) (way : FrameWay) (known : IsFrameWay plant parents demand way) where
  pub valid : (s : Sending) → Contains way.layout.sendings s → IsValidSending s
  valid s has = All-contains IsValidSending way.layout.sendings s known.layout.sendings has

  pub place_for : (s : Sending) → Contains way.layout.sendings s → (k : ℕ) → k < PHASES → IsPlace s.device.0 s.port.0 k
  place_for s has k below = let own = valid s has in record { device_in = own.device; port_in = own.port; phase_in = below }

  module _ (ratio phase : ℕ) (placed : List FramePlan) (tables : List (List Slot)) (holds : HoldsPlans plant placed tables) (x : ℕ) where
    clear_slot : (s : Sending) (f : Entry) (v : SendWindow) →
        (x + s.greatest + wire_time demand.length + slack_time plant.window s.anchor.0 v.anchor ≤ v.lo)
        ⊎ (v.hi + wire_time f.data_length + slack_time plant.window v.anchor s.anchor.0 ≤ x + s.least) →
        IsClear (guard_time plant.window) (slot_of way.layout.wire s x) (slot_in f v)
    clear_slot s f v (inl before) = inl (with_wire (x + s.greatest) way.layout.wire (wire_time demand.length) (slack_time plant.window s.anchor.0 v.anchor) v.lo known.wire before)
    clear_slot s f v (inr after) = inr after

    apart_of : (s : Sending) (f : Entry) (v : SendWindow) → IsClear (guard_time plant.window) (slot_of way.layout.wire s x) (slot_in f v) →
        (x + s.greatest + wire_time demand.length + slack_time plant.window s.anchor.0 v.anchor ≤ v.lo)
        ⊎ (v.hi + wire_time f.data_length + slack_time plant.window v.anchor s.anchor.0 ≤ x + s.least)
    apart_of s f v (inl before) = inl (with_wire (x + s.greatest) (wire_time demand.length) way.layout.wire (slack_time plant.window s.anchor.0 v.anchor) v.lo (sym known.wire) before)
    apart_of s f v (inr after) = inr after

    fitting : (s : Sending) → Contains way.layout.sendings s →
        HasRoomAt plant placed demand ratio phase s.anchor.0 s.device.0 s.port.0 s.least s.greatest x →
        IsFitting (limits_of plant) (rate_of ratio phase) way.layout.wire tables s x
    fitting s has room = record {
      red = with_wire (x + s.greatest) way.layout.wire (wire_time demand.length) (slack_time plant.window s.device.0 s.anchor.0) plant.red_max known.wire room.red;
      free = λ k below due n d inside.
          let table : List Slot = table_at tables s.device.0 s.port.0 k in
          let slot : Slot = slice_index_or table n d in
          let is = holds.only s.device.0 s.port.0 k slot (place_for s has k below) (Contains-get_or table n d inside) in
          subst (λ (z : Slot). IsClear (guard_time plant.window) (slot_of way.layout.wire s x) z) (sym is.is)
          (clear_slot s is.e is.w (room.apart is.plan is.e is.w is.placed is.sends (k, due, is.due)));
    }

    pub open_of : (anchor : ℕ) → AreRoomyAt plant placed demand ratio phase (base_of way) anchor x →
        IsOpen (limits_of plant) (rate_of ratio phase) way.layout tables anchor x
    open_of anchor roomy s has hangs =
        let own = subst (λ a. AreRoomyAt plant placed demand ratio phase (base_of way) a x) (sym hangs) roomy in
        fitting s has (own s.device.0 s.port.0 s.least s.greatest (known.sendings.only s has))

    module _ (rate : IsRate ratio phase) (rated : AreRated placed) where
      room_of : (s : Sending) → Contains way.layout.sendings s → IsFitting (limits_of plant) (rate_of ratio phase) way.layout.wire tables s x →
          HasRoomAt plant placed demand ratio phase s.anchor.0 s.device.0 s.port.0 s.least s.greatest x
      room_of s has fits = record {
        red = with_wire (x + s.greatest) (wire_time demand.length) way.layout.wire (slack_time plant.window s.device.0 s.anchor.0) plant.red_max (sym known.wire) fits.red;
        apart = λ other f v among using shared.
            let its = rated other s.device.0 f among (entry_from plant other.entries s.device.0 other.frame.0 f using.stands) in
            let (k, below, due, also) = shares_phase ratio phase f.ratio f.phase rate its shared in
            let there = holds.all s.device.0 s.port.0 k (slot_in f v) (place_for s has k below)
            (record { plan = other; e = f; w = v; placed = among; sends = using; due = also; is = λ i. slot_in f v }) in
            apart_of s f v (All-contains (IsClear (guard_time plant.window) (slot_of way.layout.wire s x)) (table_at tables s.device.0 s.port.0 k) (slot_in f v)
            (fits.free k below due) there);
      }

      pub roomy_of : (anchor : ℕ) → IsOpen (limits_of plant) (rate_of ratio phase) way.layout tables anchor x →
          AreRoomyAt plant placed demand ratio phase (base_of way) anchor x
      roomy_of anchor all device port least greatest delayed =
          let (s, has, a, d, p, l, g) = known.sendings.all anchor device port least greatest delayed in
          subst (λ n. HasRoomAt plant placed demand ratio phase n device port least greatest x) a
          (subst (λ n. HasRoomAt plant placed demand ratio phase s.anchor.0 n port least greatest x) d
          (subst (λ n. HasRoomAt plant placed demand ratio phase s.anchor.0 s.device.0 n least greatest x) p
          (subst (λ n. HasRoomAt plant placed demand ratio phase s.anchor.0 s.device.0 s.port.0 n greatest x) l
          (subst (λ n. HasRoomAt plant placed demand ratio phase s.anchor.0 s.device.0 s.port.0 s.least n x) g (room_of s has (all s has a))))))
