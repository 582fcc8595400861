-- The slots of a placed frame beside those of the others.
use Rattle.std.proofs.Common.{◌≡◌, ℕ, ◌+◌, ◌≤◌, ◌⊎◌, inl, inr, List, [], ◌∷◌, ◌++◌, Bool, true, false, cond, length, sym, ◌∙◌, ap, subst, arith, refl}
use Rattle.std.specs.Prelude.{Contains, ◌==◌}
use Rattle.std.proofs.lemmas.List.Elements.{All-weaker}
use Rattle.irt_base.specs.Cycle.{IsDue, wire_time}
use Rattle.irt_base.specs.declared.blocks.Entry.{Entry}
use Rattle.irt_base.specs.declared.plants.Demand.{Demand}
use Rattle.irt_base.specs.declared.plants.Plant.{Plant}
use Rattle.irt_route.specs.Trees.{Parents}
use Rattle.plan_rules.specs.SendWindow.{SendWindow}
use Rattle.fit_rules.specs.declared.frame_plan.FramePlan.{FramePlan}
use Rattle.fit_rules.specs.Fit.{IsUsing}
use Rattle.fit_rules.specs.Shape.{HasShape}
use Rattle.gap_table.specs.Slots.{IsClear}
use Rattle.gap_table.specs.declared.slot.Slot.{Slot}
use Rattle.placement.specs.Layouts.{IsLayout, offset_at, slot_of}
use Rattle.placement.specs.Placings.{IsFitting, ArePlaced}
use Rattle.placement.specs.Records.{AreClearSlots, IsFrameSlot}
use Rattle.placement.specs.Tables.{Adds, IsPlace, table_at}
use Rattle.placement.specs.declared.layout.Layout.{Layout}
use Rattle.placement.specs.declared.layout.Limits.{Limits}
use Rattle.placement.specs.declared.layout.Rate.{Rate}
use Rattle.placement.specs.declared.layout.Sending.{Sending}
use Rattle.plan_blocks.proofs.Lists.{get_more, get_kept, get_last}
use Rattle.frame_ways.specs.FrameWays.{IsFrameWay}
use Rattle.frame_ways.specs.declared.frame_way.FrameWay.{FrameWay}
use Rattle.planner.specs.Placed.{slot_in, IsPlacedSlot, HoldsPlans}
use Rattle.planner.proofs.Entries.{contains_at, place_of}
use Rattle.planner.proofs.Laws.{FitLaws}
use Rattle.planner.proofs.Windows.{HasOffsets, IsSentSo, entry_in_plan, sent_so, sends_so}

pub more_back : {X : Type 0} (xs : List X) (y x : X) → Contains (xs ++ y ∷ []) x → Contains xs x ⊎ (y ≡ x)
more_back xs y x has =
    let (n, at) = place_of (xs ++ y ∷ []) x has in
    elim (get_more xs y n x at) [ inl before ↦ inl (contains_at xs n x before) | inr last ↦ inr last.1 ]

pub more_old : {X : Type 0} (xs : List X) (y x : X) → Contains xs x → Contains (xs ++ y ∷ []) x
more_old xs y x has = let (n, at) = place_of xs x has in contains_at (xs ++ y ∷ []) n x (get_kept xs y n x at)

pub more_new : {X : Type 0} (xs : List X) (y : X) → Contains (xs ++ y ∷ []) y
more_new xs y = contains_at (xs ++ y ∷ []) (length xs) y (get_last xs y (length xs) refl)

-- where the anchors are placed, each sending fits at its own offset
module _ (limits : Limits) (rate : Rate) (layout : Layout) (tables : List (List Slot)) (offsets : List ℕ) (valid : IsLayout layout)
    (placed : ArePlaced limits rate layout tables offsets) where
  pub fitting : (s : Sending) → Contains layout.sendings s → IsFitting limits rate layout.wire tables s (offset_at offsets s.anchor.0)
  fitting s has =
      let (m, a, below, there, same) = valid.hangs s has in
      subst (λ d. IsFitting limits rate layout.wire tables s (offset_at offsets d)) same ((placed m a below there).holds s has (sym same))

  less_slack : (b : Bool) (guard : ℕ) → cond b 0 0 ≤ cond b 0 guard
  less_slack true guard = omega arith
  less_slack false guard = omega arith

  without_guard : (guard : ℕ) (a b : Slot) → IsClear guard a b → IsClear 0 a b
  without_guard guard a b (inl before) = let less = less_slack (a.anchor.0 == b.anchor.0) guard in inl (omega (arith, before, less))
  without_guard guard a b (inr after) = let less = less_slack (b.anchor.0 == a.anchor.0) guard in inr (omega (arith, after, less))

  pub clear_slots : AreClearSlots rate layout offsets tables
  clear_slots s has k below due =
      All-weaker (IsClear limits.guard (slot_of layout.wire s (offset_at offsets s.anchor.0))) (IsClear 0 (slot_of layout.wire s (offset_at offsets s.anchor.0)))
      (without_guard limits.guard (slot_of layout.wire s (offset_at offsets s.anchor.0))) (table_at tables s.device.0 s.port.0 k) ((fitting s has).free k below due)

module _ (laws : FitLaws) (plant : Plant) (parents : Parents) (demand : Demand) (way : FrameWay) (known : IsFrameWay plant parents demand way)
    (rate : Rate) (plan : FramePlan) (shape : HasShape plant parents demand rate.ratio rate.phase plan) (offsets : List ℕ) (has : HasOffsets plant plan offsets) where
  -- the slot of a sending is that of the window
  slot_is : (device port : ℕ) (e : Entry) (w : SendWindow) (s : Sending) → IsSentSo way demand.length offsets device port e w s →
      slot_of way.layout.wire s (offset_at offsets s.anchor.0) ≡ slot_in e w
  slot_is device port e w s so =
      let wire : way.layout.wire ≡ wire_time e.data_length = known.wire ∙ ap wire_time (sym so.long) in
      let end : offset_at offsets s.anchor.0 + s.greatest + way.layout.wire ≡ w.hi + wire_time e.data_length = ends _ s.greatest _ w.hi _ so.hi wire in
      λ i. record { lo = sym so.lo i; end = end i; anchor = record { 0 = so.anchor_is i } }
    where
      ends : (offset greatest wire hi own : ℕ) → hi ≡ offset + greatest → wire ≡ own → offset + greatest + wire ≡ hi + own
      ends offset greatest wire hi own first second = omega arith

  pub due_entry : (device port k : ℕ) (e : Entry) (w : SendWindow) → IsUsing plant plan device port e w →
      (e.ratio ≡ rate.ratio) × (e.phase ≡ rate.phase)
  due_entry device port k e w using =
      let own = shape.each device e (entry_in_plan laws plant parents demand way known rate.ratio rate.phase plan shape offsets has device e using.stands) in
      (own.ratio_is, own.phase_is)

  module _ (placed : List FramePlan) (old new : List (List Slot)) (holds : HoldsPlans plant placed old)
      (adds : Adds (IsFrameSlot rate way.layout offsets) old new) where
    only_more : (device port k : ℕ) (s : Slot) → IsPlace device port k → Contains (table_at new device port k) s →
        IsPlacedSlot plant (placed ++ plan ∷ []) device port k s
    only_more device port k s place there = elim (adds.only device port k s place there) [
      | inl before ↦
          let is = holds.only device port k s place before in
          record { plan = is.plan; e = is.e; w = is.w; placed = more_old placed plan is.plan is.placed; sends = is.sends; due = is.due; is = is.is }
      | inr is ↦
          let (e, w, using, so) = sends_so laws plant parents demand way known rate.ratio rate.phase plan shape offsets has is.sending is.has in
          let (ratio, phase) = due_entry is.sending.device.0 is.sending.port.0 k e w using in
          let due : IsDue k e.ratio e.phase = subst (λ r. IsDue k r e.phase) (sym ratio) (subst (λ p. IsDue k rate.ratio p) (sym phase) is.is.due) in
          record {
            plan = plan;
            e = e;
            w = w;
            placed = more_new placed plan;
            sends = subst (λ d. IsUsing plant plan d port e w) (sym is.is.device_is) (subst (λ p. IsUsing plant plan is.sending.device.0 p e w) (sym is.is.port_is) using);
            due = due;
            is = is.is.slot_is ∙ slot_is is.sending.device.0 is.sending.port.0 e w is.sending so;
          }
    ]

    all_more : (device port k : ℕ) (s : Slot) → IsPlace device port k → IsPlacedSlot plant (placed ++ plan ∷ []) device port k s →
        Contains (table_at new device port k) s
    all_more device port k s place is = elim (more_back placed plan is.plan is.placed) [
      | inl before ↦ adds.keeps device port k s place (holds.all device port k s place
          (record { plan = is.plan; e = is.e; w = is.w; placed = before; sends = is.sends; due = is.due; is = is.is }))
      | inr same ↦
          let using : IsUsing plant plan device port is.e is.w = subst (λ (p : FramePlan). IsUsing plant p device port is.e is.w) (sym same) is.sends in
          let (sending, so) = sent_so laws plant parents demand way known rate.ratio rate.phase plan shape offsets has device port is.e is.w using in
          let (ratio, phase) = due_entry device port k is.e is.w using in
          let due : IsDue k rate.ratio rate.phase = subst (λ r. IsDue k r rate.phase) ratio (subst (λ p. IsDue k is.e.ratio p) phase is.due) in
          adds.adds device port k s place (record {
            sending = sending;
            has = so.has;
            is = record {
              device_is = sym so.device_is;
              port_is = sym so.port_is;
              before = place.phase_in;
              due = due;
              slot_is = is.is ∙ sym (slot_is device port is.e is.w sending so);
            };
          })
    ]

    pub holds_more : HoldsPlans plant (placed ++ plan ∷ []) new
    holds_more = record { only = only_more; all = all_more }
