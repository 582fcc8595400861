-- The last ends with a frame that is placed beside the others.
use Rattle.std.proofs.Common.{◌≡◌, ℕ, ◌+◌, ◌≤◌, ◌⊎◌, inl, inr, List, [], ◌∷◌, ◌++◌, sym, ◌∙◌, ap, subst, arith}
use Rattle.irt_base.specs.Cycle.{IsDue, wire_time, guard_time}
use Rattle.irt_base.specs.declared.blocks.Entry.{Entry}
use Rattle.irt_base.specs.declared.plants.Demand.{Demand}
use Rattle.irt_base.specs.declared.plants.Plant.{Plant}
use Rattle.plan_rules.specs.Frames.{IsForwarded}
use Rattle.plan_rules.specs.SendWindow.{SendWindow}
use Rattle.fit_rules.specs.declared.frame_plan.FramePlan.{FramePlan}
use Rattle.fit_rules.specs.Blocks.{IsSentEnd, IsReceivedEnd, IsGreatest}
use Rattle.fit_rules.specs.Fit.{IsUsing, end_time}
use Rattle.fit_rules.specs.Shape.{alone, HasShape}
use Rattle.irt_route.specs.Trees.{Parents}
use Rattle.placement.specs.Layouts.{offset_at, end_of}
use Rattle.placement.specs.Tables.{IsPlace}
use Rattle.placement.specs.declared.layout.Rate.{Rate}
use Rattle.plan_blocks.specs.Blocks.{AreLastEnds}
use Rattle.plan_blocks.specs.Ends.{Raises, end_at}
use Rattle.frame_ways.specs.FrameWays.{IsFrameWay}
use Rattle.frame_ways.specs.declared.frame_way.Arrival.{Arrival}
use Rattle.frame_ways.specs.declared.frame_way.FrameWay.{FrameWay}
use Rattle.planner.specs.Ends.{IsSendingEnd, IsArrivalEnd, arrival_end}
use Rattle.planner.specs.Placed.{limits_of}
use Rattle.planner.proofs.Laws.{FitLaws}
use Rattle.planner.proofs.Slots.{more_back, more_old, more_new, due_entry}
use Rattle.planner.proofs.Windows.{HasOffsets, IsSentSo, IsComeSo, entry_in_plan, sent_so, sends_so, come_so, comes_so}

-- the greatest number with more of them, none of which is 0
greatest_more : (P Q R : ℕ → Type 0) (old new : ℕ) → ((x : ℕ) → P x → R x) → ((x : ℕ) → Q x → R x) → ((x : ℕ) → R x → P x ⊎ Q x) →
    ((x : ℕ) → Q x → 1 ≤ x) → old ≤ new → ((x : ℕ) → Q x → x ≤ new) → (new ≡ old) ⊎ Q new → IsGreatest P old → IsGreatest R new
greatest_more P Q R old new left right parts above up bound some was = record {
  bound = λ x is. elim (parts x is) [
    | inl p ↦ let low = was.bound x p in omega arith
    | inr q ↦ bound x q
  ];
  some = elim some [
    | inl same ↦ elim was.some [
      | inl p ↦ inl (left new (subst P (sym same) p))
      | inr (zero_is, none) ↦ inr (
        same ∙ zero_is,
        λ x is. elim (parts x is) [
          | inl p ↦ none x p
          | inr q ↦
              let high = above x q in
              let low = bound x q in
              absurd (omega arith)
        ],
      )
    ]
    | inr q ↦ inl (right new q)
  ];
}

module _ (laws : FitLaws) (plant : Plant) (parents : Parents) (demand : Demand) (way : FrameWay) (known : IsFrameWay plant parents demand way)
    (rate : Rate) (plan : FramePlan) (shape : HasShape plant parents demand rate.ratio rate.phase plan) (offsets : List ℕ) (has : HasOffsets plant plan offsets)
    (ends_are : (device port : ℕ) (e : Entry) (w : SendWindow) (s : _) → IsSentSo way demand.length offsets device port e w s →
    end_of (limits_of plant) way.layout.wire s (offset_at offsets s.anchor.0) ≡ end_time plant device e w)
    (placed : List FramePlan) where
  due_here : (k : ℕ) (e : Entry) → (e.ratio ≡ rate.ratio) × (e.phase ≡ rate.phase) → IsDue k e.ratio e.phase → IsDue k rate.ratio rate.phase
  due_here k e (ratio, phase) due = subst (λ r. IsDue k r rate.phase) ratio (subst (λ p. IsDue k e.ratio p) phase due)

  due_there : (k : ℕ) (e : Entry) → (e.ratio ≡ rate.ratio) × (e.phase ≡ rate.phase) → IsDue k rate.ratio rate.phase → IsDue k e.ratio e.phase
  due_there k e (ratio, phase) due = subst (λ r. IsDue k r e.phase) (sym ratio) (subst (λ p. IsDue k rate.ratio p) (sym phase) due)

  sent_back : (device port k x : ℕ) → IsPlace device port k → IsSentEnd plant (placed ++ plan ∷ []) device port k x →
      IsSentEnd plant placed device port k x ⊎ IsSendingEnd (limits_of plant) rate way.layout offsets device port k x
  sent_back device port k x place is = elim (more_back placed plan is.plan is.placed) [
    | inl before ↦ inl (record { plan = is.plan; e = is.e; w = is.w; placed = before; sends = is.sends; due = is.due; is = is.is })
    | inr same ↦
        let using : IsUsing plant plan device port is.e is.w = subst (λ (p : FramePlan). IsUsing plant p device port is.e is.w) (sym same) is.sends in
        let (s, so) = sent_so laws plant parents demand way known rate.ratio rate.phase plan shape offsets has device port is.e is.w using in
        inr (record {
          sending = s;
          has = so.has;
          is = record {
            device_is = sym so.device_is;
            port_is = sym so.port_is;
            before = place.phase_in;
            due = due_here k is.e (due_entry laws plant parents demand way known rate plan shape offsets has device port k is.e is.w using) is.due;
            end_is = is.is ∙ sym (ends_are device port is.e is.w s so);
          };
        })
  ]

  sent_old : (device port k x : ℕ) → IsSentEnd plant placed device port k x → IsSentEnd plant (placed ++ plan ∷ []) device port k x
  sent_old device port k x is = record { plan = is.plan; e = is.e; w = is.w; placed = more_old placed plan is.plan is.placed; sends = is.sends; due = is.due; is = is.is }

  sent_new : (device port k x : ℕ) → IsSendingEnd (limits_of plant) rate way.layout offsets device port k x → IsSentEnd plant (placed ++ plan ∷ []) device port k x
  sent_new device port k x is =
      let s = is.sending in
      let (e, w, using, so) = sends_so laws plant parents demand way known rate.ratio rate.phase plan shape offsets has s is.has in
      record {
        plan = plan;
        e = e;
        w = w;
        placed = more_new placed plan;
        sends = subst (λ d. IsUsing plant plan d port e w) (sym is.is.device_is) (subst (λ p. IsUsing plant plan s.device.0 p e w) (sym is.is.port_is) using);
        due = due_there k e (due_entry laws plant parents demand way known rate plan shape offsets has s.device.0 s.port.0 k e w using) is.is.due;
        is = is.is.end_is ∙ ends_are s.device.0 s.port.0 e w s so ∙ ap (λ d. end_time plant d e w) (sym is.is.device_is);
      }

  sent_above : (device port k x : ℕ) → IsSendingEnd (limits_of plant) rate way.layout offsets device port k x → 1 ≤ x
  sent_above device port k x is = let wire = known.layout.wire.0 in omega (arith, is.is.end_is, wire)

  come_sum : (offset latest high wire own same guard : ℕ) → high ≡ offset + latest → wire ≡ same → own ≡ same → offset + latest + wire + guard ≡ high + own + guard
  come_sum offset latest high wire own same guard first second third = omega arith

  come_end : (device : ℕ) (e : Entry) (hop : ℕ) (w : SendWindow) (a : Arrival) → IsComeSo way demand.length offsets device e hop w a →
      arrival_end (limits_of plant) way.layout.wire a (offset_at offsets a.anchor.0) ≡ w.hi + hop + wire_time e.data_length + guard_time plant.window
  come_end device e hop w a so = come_sum (offset_at offsets a.anchor.0) a.latest (w.hi + hop) way.layout.wire (wire_time e.data_length) (wire_time demand.length)
      (guard_time plant.window) so.latest known.wire (ap wire_time so.long)

  due_come : (device hop : ℕ) (e : Entry) (w : SendWindow) → IsForwarded (alone plant plan) device plan.frame.0 e hop w →
      (e.ratio ≡ rate.ratio) × (e.phase ≡ rate.phase)
  due_come device hop e w comes =
      let own = shape.each device e (entry_in_plan laws plant parents demand way known rate.ratio rate.phase plan shape offsets has device e comes.stands) in
      (own.ratio_is, own.phase_is)

  come_back : (device port k x : ℕ) → IsPlace device port k → IsReceivedEnd plant (placed ++ plan ∷ []) device port k x →
      IsReceivedEnd plant placed device port k x ⊎ IsArrivalEnd (limits_of plant) rate way.layout.wire way.arrivals offsets device port k x
  come_back device port k x place is = elim (more_back placed plan is.plan is.placed) [
    | inl before ↦ inl (record { plan = is.plan; e = is.e; hop = is.hop; w = is.w; placed = before; comes = is.comes; here = is.here; due = is.due; is = is.is })
    | inr same ↦
        let comes : IsForwarded (alone plant plan) device plan.frame.0 is.e is.hop is.w =
        subst (λ (p : FramePlan). IsForwarded (alone plant p) device p.frame.0 is.e is.hop is.w) (sym same) is.comes in
        let (a, so) = come_so laws plant parents demand way known rate.ratio rate.phase plan shape offsets has device is.e is.hop is.w comes in
        inr (record {
          arrival = a;
          has = so.has;
          is = record {
            device_is = sym so.device_is;
            port_is = sym (so.port_is ∙ is.here);
            before = place.phase_in;
            due = due_here k is.e (due_come device is.hop is.e is.w comes) is.due;
            end_is = is.is ∙ sym (come_end device is.e is.hop is.w a so);
          };
        })
  ]

  come_old : (device port k x : ℕ) → IsReceivedEnd plant placed device port k x → IsReceivedEnd plant (placed ++ plan ∷ []) device port k x
  come_old device port k x is = record { plan = is.plan; e = is.e; hop = is.hop; w = is.w; placed = more_old placed plan is.plan is.placed; comes = is.comes; here = is.here; due = is.due; is = is.is }

  come_new : (device port k x : ℕ) → IsArrivalEnd (limits_of plant) rate way.layout.wire way.arrivals offsets device port k x →
      IsReceivedEnd plant (placed ++ plan ∷ []) device port k x
  come_new device port k x is =
      let a = is.arrival in
      let (e, hop, w, comes, so) = comes_so laws plant parents demand way known rate.ratio rate.phase plan shape offsets has a is.has in
      record {
        plan = plan;
        e = e;
        hop = hop;
        w = w;
        placed = more_new placed plan;
        comes = subst (λ d. IsForwarded (alone plant plan) d plan.frame.0 e hop w) (sym is.is.device_is) comes;
        here = sym so.port_is ∙ sym is.is.port_is;
        due = due_there k e (due_come a.device.0 hop e w comes) is.is.due;
        is = is.is.end_is ∙ come_end a.device.0 e hop w a so;
      }

  come_above : (device port k x : ℕ) → IsArrivalEnd (limits_of plant) rate way.layout.wire way.arrivals offsets device port k x → 1 ≤ x
  come_above device port k x is = let wire = known.layout.wire.0 in omega (arith, is.is.end_is, wire)

  pub ends_more : (tx rx more_tx more_rx : List ℕ) → AreLastEnds plant placed tx rx → Raises (IsSendingEnd (limits_of plant) rate way.layout offsets) tx more_tx →
      Raises (IsArrivalEnd (limits_of plant) rate way.layout.wire way.arrivals offsets) rx more_rx → AreLastEnds plant (placed ++ plan ∷ []) more_tx more_rx
  ends_more tx rx more_tx more_rx was sent received = record {
    sent = λ device port k place. greatest_more (IsSentEnd plant placed device port k) (IsSendingEnd (limits_of plant) rate way.layout offsets device port k)
        (IsSentEnd plant (placed ++ plan ∷ []) device port k) (end_at tx device port k) (end_at more_tx device port k)
        (sent_old device port k) (sent_new device port k) (λ x. sent_back device port k x place) (sent_above device port k)
        (sent.keeps device port k place) (λ x. sent.bound device port k x place) (sent.some device port k place) (was.sent device port k place);
    received = λ device port k place. greatest_more (IsReceivedEnd plant placed device port k)
        (IsArrivalEnd (limits_of plant) rate way.layout.wire way.arrivals offsets device port k)
        (IsReceivedEnd plant (placed ++ plan ∷ []) device port k) (end_at rx device port k) (end_at more_rx device port k)
        (come_old device port k) (come_new device port k) (λ x. come_back device port k x place) (come_above device port k)
        (received.keeps device port k place) (λ x. received.bound device port k x place) (received.some device port k place) (was.received device port k place);
  }
