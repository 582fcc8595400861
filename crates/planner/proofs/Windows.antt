-- The windows of a demand's plan, by the offsets of its anchors and the frame's way.
use Rattle.std.proofs.Common.{◌≡◌, ℕ, ◌+◌, inl, inr, List, Some, sym, ◌∙◌, ap, arith, refl}
use Rattle.std.specs.Prelude.{option_map, Contains}
use Rattle.irt_base.specs.declared.blocks.Entry.{Entry}
use Rattle.irt_base.specs.declared.numbers.FrameId.{FrameId}
use Rattle.irt_base.specs.declared.plants.Demand.{Demand}
use Rattle.irt_base.specs.declared.plants.Plant.{Plant}
use Rattle.irt_route.specs.Trees.{Parents}
use Rattle.plan_rules.specs.Frames.{IsForwarded}
use Rattle.plan_rules.specs.SendWindow.{SendWindow, HasWindow}
use Rattle.plan_rules.specs.Way.{Leaves, entry_at, IsAnchor}
use Rattle.fit_rules.specs.declared.frame_plan.FramePlan.{FramePlan}
use Rattle.fit_rules.specs.Shape.{alone, entry_of, IsEntryOf, HasShape}
use Rattle.fit_rules.specs.Fit.{IsUsing}
use Rattle.fit_rules.specs.Moves.{offset_at}
use Rattle.placement.specs.Layouts.{offset_at as offset_in}
use Rattle.placement.specs.declared.layout.Sending.{Sending}
use Rattle.frame_ways.specs.FrameWays.{base_of, IsFrameWay}
use Rattle.frame_ways.specs.declared.frame_way.Arrival.{Arrival}
use Rattle.frame_ways.specs.declared.frame_way.FrameWay.{FrameWay}
use Rattle.planner.proofs.Laws.{FitLaws}
use Rattle.planner.proofs.Entries.{entry_from, entry_stands, anchor_entry}

-- Entries of one device in two plans of a demand are anchors together.
module _ (plant : Plant) (parents : Parents) (demand : Demand) (r p s q device : ℕ) (e g : Entry)
    (first : IsEntryOf plant parents demand r p device e) (second : IsEntryOf plant parents demand s q device g) where
  pub own_alike : e.rx_port ≡ 0 → g.rx_port ≡ 0
  own_alike own = elim first.on [
    | inl provides ↦ second.provided provides
    | inr (from, is) ↦ let got = first.received from is in absurd (omega (arith, got.from_one, own))
  ]

  pub leaves_alike : (port : ℕ) → Leaves e port → Leaves g port
  leaves_alike port leaves = record {
    from_one = leaves.from_one;
    bit = (second.sent port leaves.from_one).1 ((first.sent port leaves.from_one).0 leaves.bit);
  }

  pub anchors_alike : (plan other : FramePlan) → IsAnchor (alone plant plan) device e → IsAnchor (alone plant other) device g
  anchors_alike plan other (inl own) = inl (own_alike own)
  anchors_alike plan other (inr (absolute, (port, leaves))) = inr (absolute, (port, leaves_alike port leaves))

-- the offsets of a plan's anchors
abbrev pub HasOffsets : Plant → FramePlan → List ℕ → Type 0
HasOffsets plant plan offsets = (device : ℕ) (e : Entry) → entry_of plan device ≡ Some e → IsAnchor (alone plant plan) device e →
    e.send_offset ≡ offset_in offsets device

-- A sending of the way, at an offset of its anchor.
pub record IsSentSo (way : FrameWay) (length : ℕ) (offsets : List ℕ) (device port : ℕ) (e : Entry) (w : SendWindow) (s : Sending) : Type 0 where
  pub has : Contains way.layout.sendings s
  pub device_is : s.device.0 ≡ device
  pub port_is : s.port.0 ≡ port
  pub anchor_is : s.anchor.0 ≡ w.anchor
  pub lo : w.lo ≡ offset_in offsets s.anchor.0 + s.least
  pub hi : w.hi ≡ offset_in offsets s.anchor.0 + s.greatest
  pub long : e.data_length ≡ length

-- An arrival of the way, at an offset of its anchor.
pub record IsComeSo (way : FrameWay) (length : ℕ) (offsets : List ℕ) (device : ℕ) (e : Entry) (hop : ℕ) (w : SendWindow) (a : Arrival) : Type 0 where
  pub has : Contains way.arrivals a
  pub device_is : a.device.0 ≡ device
  pub port_is : a.port.0 ≡ e.rx_port
  pub anchor_is : a.anchor.0 ≡ w.anchor
  pub latest : w.hi + hop ≡ offset_in offsets a.anchor.0 + a.latest
  pub long : e.data_length ≡ length

offset_is : (plan : FramePlan) (device : ℕ) (e : Entry) → entry_of plan device ≡ Some e → offset_at plan device ≡ Some e.send_offset
offset_is plan device e is = ap (option_map (λ (x : Entry). x.send_offset)) is

module _ (laws : FitLaws) (plant : Plant) (parents : Parents) (demand : Demand) (way : FrameWay) (known : IsFrameWay plant parents demand way)
    (ratio phase : ℕ) (plan : FramePlan) (shape : HasShape plant parents demand ratio phase plan) (offsets : List ℕ) (has : HasOffsets plant plan offsets) where
  pub stands_in : (device : ℕ) (e : Entry) → entry_of plan device ≡ Some e → entry_at (alone plant plan) device plan.frame.0 ≡ Some e
  stands_in device e is = entry_stands plant plan.entries device plan.frame.0 e is (ap (λ (f : FrameId). f.0) ((shape.each device e is).frame ∙ sym shape.frame))

  pub entry_in_plan : (device : ℕ) (e : Entry) → entry_at (alone plant plan) device plan.frame.0 ≡ Some e → entry_of plan device ≡ Some e
  entry_in_plan device e is = entry_from plant plan.entries device plan.frame.0 e is

  -- an anchor of the plan is one of the way, and the other way round
  pub base_anchor : (device : ℕ) (e : Entry) → entry_of plan device ≡ Some e → IsAnchor (alone plant plan) device e →
      (g : Entry) × (entry_of (base_of way) device ≡ Some g) × IsAnchor (alone plant (base_of way)) device g
  base_anchor device e is starts =
      let own = shape.each device e is in
      let (g, at) = known.shape.full device own.on in
      (g, at, anchors_alike plant parents demand ratio phase 1 1 device e g own (known.shape.each device g at) plan (base_of way) starts)

  pub plan_anchor : (device : ℕ) (g : Entry) → entry_of (base_of way) device ≡ Some g → IsAnchor (alone plant (base_of way)) device g →
      (e : Entry) × (entry_of plan device ≡ Some e) × IsAnchor (alone plant plan) device e
  plan_anchor device g at starts =
      let own = known.shape.each device g at in
      let (e, is) = shape.full device own.on in
      (e, is, anchors_alike plant parents demand 1 1 ratio phase device g e own (shape.each device e is) (base_of way) plan starts)

  -- the offsets on which a window hangs
  hangs_plan : (device : ℕ) (w : SendWindow) → HasWindow (alone plant plan) plan.frame.0 device w →
      (offset_at plan w.anchor ≡ Some (offset_in offsets w.anchor)) × (offset_at (base_of way) w.anchor ≡ Some 0)
  hangs_plan device w sends =
      let (e, at, starts) = anchor_entry (alone plant plan) plan.frame.0 device w sends in
      let is = entry_in_plan w.anchor e at in
      let (g, there, low) = base_anchor w.anchor e is starts in
      (offset_is plan w.anchor e is ∙ ap Some (has w.anchor e is starts), offset_is (base_of way) w.anchor g there ∙ ap Some (known.zero w.anchor g there))

  pub hangs_base : (device : ℕ) (w : SendWindow) → HasWindow (alone plant (base_of way)) way.frame.0 device w →
      (offset_at (base_of way) w.anchor ≡ Some 0) × (offset_at plan w.anchor ≡ Some (offset_in offsets w.anchor))
  hangs_base device w sends =
      let (g, at, starts) = anchor_entry (alone plant (base_of way)) way.frame.0 device w sends in
      let there = entry_from plant way.entries w.anchor way.frame.0 g at in
      let (e, is, low) = plan_anchor w.anchor g there starts in
      (offset_is (base_of way) w.anchor g there ∙ ap Some (known.zero w.anchor g there), offset_is plan w.anchor e is ∙ ap Some (has w.anchor e is low))

  pub long_entry : (device : ℕ) (e : Entry) → entry_at (alone plant plan) device plan.frame.0 ≡ Some e → e.data_length ≡ demand.length
  long_entry device e at = (shape.each device e (entry_in_plan device e at)).length

  pub sent_so : (device port : ℕ) (e : Entry) (w : SendWindow) → IsUsing plant plan device port e w →
      (s : Sending) × IsSentSo way demand.length offsets device port e w s
  sent_so device port e w using =
      let (here, there) = hangs_plan device w using.sends in
      let (g, v, ways, sends, shifted) = laws.sendings plant parents demand ratio phase plan shape 1 1 (base_of way) known.shape device port (offset_in offsets w.anchor) 0 e w using here there in
      let (s, in_layout, anchor, at, by, least, greatest) = known.sendings.all w.anchor device port v.lo v.hi
      (record { e = g; w = v; sends = sends; hangs = shifted.anchor; lo = refl; hi = refl }) in
      let same : offset_in offsets s.anchor.0 ≡ offset_in offsets w.anchor = ap (offset_in offsets) anchor in (
        s,
        record {
          has = in_layout;
          device_is = at;
          port_is = by;
          anchor_is = anchor;
          lo = omega (arith, shifted.lo, least, same);
          hi = omega (arith, shifted.hi, greatest, same);
          long = long_entry device e using.stands;
        },
      )

  pub sends_so : (s : Sending) → Contains way.layout.sendings s →
      (e : Entry) × (w : SendWindow) × IsUsing plant plan s.device.0 s.port.0 e w × IsSentSo way demand.length offsets s.device.0 s.port.0 e w s
  sends_so s in_layout =
      let is = known.sendings.only s in_layout in
      let (there, here) = hangs_base s.device.0 is.w is.sends.sends in
      let (e, w, ways, using, shifted) = laws.sendings plant parents demand 1 1 (base_of way) known.shape ratio phase plan shape s.device.0 s.port.0 0
      (offset_in offsets is.w.anchor) is.e is.w is.sends there here in
      let anchor : s.anchor.0 ≡ w.anchor = sym (shifted.anchor ∙ is.hangs) in
      let same : offset_in offsets s.anchor.0 ≡ offset_in offsets is.w.anchor = ap (offset_in offsets) (sym is.hangs) in (
        e,
        w,
        using,
        record {
          has = in_layout;
          device_is = refl;
          port_is = refl;
          anchor_is = anchor;
          lo = omega (arith, shifted.lo, is.lo, same);
          hi = omega (arith, shifted.hi, is.hi, same);
          long = long_entry s.device.0 e using.stands;
        },
      )

  pub come_so : (device : ℕ) (e : Entry) (hop : ℕ) (w : SendWindow) → IsForwarded (alone plant plan) device plan.frame.0 e hop w →
      (a : Arrival) × IsComeSo way demand.length offsets device e hop w a
  come_so device e hop w comes =
      let (here, there) = hangs_plan comes.parent w comes.sends in
      let (g, v, ways, now, shifted) = laws.arrivals plant parents demand ratio phase plan shape 1 1 (base_of way) known.shape device hop (offset_in offsets w.anchor) 0 e w comes here there in
      let (a, listed, at, by, anchor, latest) = known.arrivals.all device g hop v now in
      let one : a.anchor.0 ≡ w.anchor = anchor ∙ shifted.anchor in
      let same : offset_in offsets a.anchor.0 ≡ offset_in offsets w.anchor = ap (offset_in offsets) one in (
        a,
        record {
          has = listed;
          device_is = at;
          port_is = by ∙ ways.rx_port;
          anchor_is = one;
          latest = omega (arith, shifted.hi, latest, same);
          long = long_entry device e comes.stands;
        },
      )

  pub comes_so : (a : Arrival) → Contains way.arrivals a →
      (e : Entry) × (hop : ℕ) × (w : SendWindow) × IsForwarded (alone plant plan) a.device.0 plan.frame.0 e hop w ×
      IsComeSo way demand.length offsets a.device.0 e hop w a
  comes_so a listed =
      let is = known.arrivals.only a listed in
      let (there, here) = hangs_base is.comes.parent is.w is.comes.sends in
      let (e, w, ways, comes, shifted) = laws.arrivals plant parents demand 1 1 (base_of way) known.shape ratio phase plan shape a.device.0 is.hop 0
      (offset_in offsets is.w.anchor) is.e is.w is.comes there here in
      let one : a.anchor.0 ≡ w.anchor = sym (shifted.anchor ∙ is.hangs) in
      let same : offset_in offsets a.anchor.0 ≡ offset_in offsets is.w.anchor = ap (offset_in offsets) (sym is.hangs) in (
        e,
        is.hop,
        w,
        comes,
        record {
          has = listed;
          device_is = refl;
          port_is = sym is.here ∙ sym ways.rx_port;
          anchor_is = one;
          latest = omega (arith, shifted.hi, is.is, same);
          long = long_entry a.device.0 e comes.stands;
        },
      )
