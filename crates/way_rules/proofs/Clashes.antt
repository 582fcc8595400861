-- V6 at a port, by the slots of its entries.
use Rattle.std.proofs.Common.{◌≡◌, ◌<◌, ◌≤◌, ◌+◌, ℕ, List, Option, Some, None, Contains, length, refl, sym, ◌∙◌, ap, subst, arith, inl, inr, ◌⊎◌}
use Rattle.std.specs.Prelude.{slice_get}
use Rattle.std.proofs.lemmas.Bool.{cases_lt}
use Rattle.std.proofs.lemmas.Option.{same_Some, slice_get_within, slice_get_cases}
use Rattle.std.specs.List.Sorted.{IsStrictlyIncreasing}
use Rattle.irt_base.specs.Valid.{frames_of}
use Rattle.irt_base.specs.Cycle.{SharesCycle, wire_time}
use Rattle.irt_base.specs.declared.numbers.DevId.{DevId}
use Rattle.irt_base.specs.declared.numbers.FrameId.{FrameId}
use Rattle.irt_base.specs.declared.blocks.Bundle.{Bundle}
use Rattle.irt_base.specs.declared.blocks.Entry.{Entry}
use Rattle.irt_base.specs.declared.plants.Plant.{Plant}
use Rattle.plan_rules.specs.Way.{Setup}
use Rattle.plan_rules.specs.SendWindow.{SendWindow, HasWindow, slack_time}
use Rattle.plan_rules.specs.Plan.{setup_of, IsPlan}
use Rattle.irt_window.specs.declared.ports.TheConstants.{TX_BITS}
use Rattle.plan_rules.specs.Frames.{KeepsApart, IsSending, IsBefore}
use Rattle.plan_rules.specs.Places.{IsLess, IsAt, IsLeastOf, IsScanOf}
use Rattle.plan_rules.specs.Ways.{window_of}
use Rattle.plan_rules.specs.declared.place.Place.{Place}
use Rattle.plan_rules.specs.declared.way.Way.{Way}
use Rattle.window_sweep.specs.Clashes.{Clash, IsClash, IsLeastClash, IsFirstClash, IsUpTo}
use Rattle.window_sweep.specs.declared.slot.SendSlot.{SendSlot}
use Rattle.way_rules.specs.Placed.{IsWayPlan, IsRow}
use Rattle.way_rules.specs.Slots.{AreSlots, IsSlotOf, AreTimed, slot_of}
use Rattle.way_rules.proofs.Entries.{stands, placed, row_count, bundle_valid}
use Rattle.way_rules.proofs.OneWay.{OneWindow, one_window, sending}
use Rattle.way_rules.proofs.RedTests.{sending-later}

-- a port of a device, its entries, their ways and its slots
pub record IsPort (plant : Plant) (bundles : List Bundle) (ways : List (List Way)) (device port : ℕ) (entries : List Entry) (own : List Way)
    (slots : List SendSlot) : Type 0 where
  pub plan : IsWayPlan plant bundles ways
  pub windows : OneWindow (setup_of plant bundles)
  pub row : IsRow bundles ways device entries own
  pub slots_of : AreSlots entries own port (length entries) slots

-- a frame that is sent there has a slot
pub record SentSlot (slots : List SendSlot) (frame : ℕ) (e : Entry) (window : SendWindow) : Type 0 where
  pub way : Way
  pub by_way : window ≡ window_of way
  pub member : Contains slots (slot_of e way)
  pub named : e.frame.0 ≡ frame

way_at : (own : List Way) (n : ℕ) → n < length own → (way : Way) × (slice_get own n ≡ Some way)
way_at own n within =
    elim (slice_get_cases own n).1 [ inl there ↦ (there.0, there.2) | inr past ↦ absurd (omega (arith, past.0)) ]

sent_slot : (plant : Plant) (bundles : List Bundle) (ways : List (List Way)) (device port frame : ℕ) (entries : List Entry) (own : List Way)
    (slots : List SendSlot) (e : Entry) (window : SendWindow) → IsPort plant bundles ways device port entries own slots
    → IsSending (setup_of plant bundles) device port frame e window → SentSlot slots frame e window
sent_slot plant bundles ways device port frame entries own slots e window p sends =
    let s = stands plant bundles device frame e sends.stands in
    let same : s.b ≡ p.row.b = same_Some s.b p.row.b (sym s.held ∙ p.row.held) in
    let is : slice_get entries s.n ≡ Some e =
    ap (λ (xs : List Entry). slice_get xs s.n) (sym p.row.is) ∙ (ap (λ (b : Bundle). slice_get b.frames.entries s.n) (sym same) ∙ s.is) in
    let is_held : slice_get p.row.b.frames.entries s.n ≡ Some e = ap (λ (b : Bundle). slice_get b.frames.entries s.n) (sym same) ∙ s.is in
    let count = row_count plant bundles ways device entries own p.plan p.row in
    let within = slice_get_within entries s.n e is in
    let (way, at) = way_at own s.n (omega (arith, count)) in
    let place = placed plant bundles ways device s.n p.row.b own e way p.plan p.row.held p.row.rows is_held at in
    record {
      way = way;
      by_way = one_window plant bundles device e way p.windows place window
          (subst (λ (f : ℕ). HasWindow (setup_of plant bundles) f device window) (sym s.named) sends.sends);
      member = p.slots_of.all s.n e way within is at sends.leaves;
      named = s.named;
    }

-- two entries by their ways keep apart, or their slots clash
apart_or_clash : (window : ℕ) (slots : List SendSlot) (f g : ℕ) (d e : Entry) (u v : Way) → f < g → Contains slots (slot_of d u)
    → Contains slots (slot_of e v) → d.frame.0 ≡ f → e.frame.0 ≡ g → SharesCycle d.ratio d.phase e.ratio e.phase
    → (IsBefore window d (window_of u) (window_of v) ⊎ IsBefore window e (window_of v) (window_of u)) ⊎ IsClash window slots f g
apart_or_clash window slots f g d e u v less has_d has_e is_f is_g share =
    elim (cases_lt v.lo (u.hi + wire_time d.data_length + slack_time window u.anchor.0 v.anchor.0)) [
      | inr first ↦ inl (inl first)
      | inl late ↦ elim (cases_lt u.lo (v.hi + wire_time e.data_length + slack_time window v.anchor.0 u.anchor.0)) [
        | inr second ↦ inl (inr second)
        | inl too ↦ inr (record {
          first = slot_of d u;
          second = slot_of e v;
          has_first = has_d;
          has_second = has_e;
          named_first = is_f;
          named_second = is_g;
          ordered = less;
          clash = record { share = share; meet = λ clear. elim clear [ inl one ↦ omega (arith, one, late) | inr two ↦ omega (arith, two, too) ] };
        })
      ]
    ]

sent_apart : (plant : Plant) (bundles : List Bundle) (ways : List (List Way)) (device port : ℕ) (entries : List Entry) (own : List Way)
    (slots : List SendSlot) → IsPort plant bundles ways device port entries own slots → (f g : ℕ) (d e : Entry) (v w : SendWindow) → f < g
    → IsSending (setup_of plant bundles) device port f d v → IsSending (setup_of plant bundles) device port g e w
    → SharesCycle d.ratio d.phase e.ratio e.phase
    → (IsBefore plant.window d v w ⊎ IsBefore plant.window e w v) ⊎ IsClash plant.window slots f g
sent_apart plant bundles ways device port entries own slots p f g d e v w less sends_d sends_e share =
    let one = sent_slot plant bundles ways device port f entries own slots d v p sends_d in
    let two = sent_slot plant bundles ways device port g entries own slots e w p sends_e in
    subst (λ (x : SendWindow). (IsBefore plant.window d x w ⊎ IsBefore plant.window e w x) ⊎ IsClash plant.window slots f g) (sym one.by_way)
    (subst (λ (y : SendWindow). (IsBefore plant.window d (window_of one.way) y ⊎ IsBefore plant.window e y (window_of one.way))
    ⊎ IsClash plant.window slots f g) (sym two.by_way)
    (apart_or_clash plant.window slots f g d e one.way two.way less one.member two.member one.named two.named share))

-- the sending that a place speaks of
at_place : (setup : Setup) (device port frame : ℕ) (at : Place) (e : Entry) (window : SendWindow) → IsAt device port at
    → IsSending setup at.device.0 at.port frame e window → IsSending setup device port frame e window
at_place setup device port frame at e window (of, at_port) sends =
    subst (λ (q : ℕ). IsSending setup device q frame e window) at_port
    (subst (λ (k : ℕ). IsSending setup k at.port frame e window) of sends)

-- what the call on the slots found
abbrev Pair : Type 0
Pair = FrameId × FrameId

pub found_as : (window : ℕ) (slots seen : List SendSlot) (answer found : Option Pair) → seen ≡ slots → answer ≡ found
    → IsFirstClash window seen answer → IsFirstClash window slots found
found_as window slots seen answer found same is h =
    subst (λ (xs : List SendSlot). IsFirstClash window xs found) same (subst (λ (o : Option Pair). IsFirstClash window seen o) is h)

pub port_clear : (plant : Plant) (bundles : List Bundle) (ways : List (List Way)) (device port : ℕ) (entries : List Entry) (own : List Way)
    (slots : List SendSlot) → IsPort plant bundles ways device port entries own slots → IsFirstClash plant.window slots None
    → IsScanOf (IsAt device port) (KeepsApart plant bundles) None
port_clear plant bundles ways device port entries own slots p clear at here d e v w less sends_d sends_e share =
    elim (sent_apart plant bundles ways device port entries own slots p at.frame at.other d e v w less
    (at_place (setup_of plant bundles) device port at.frame at d v here sends_d)
    (at_place (setup_of plant bundles) device port at.other at e w here sends_e) share) [
      | inl apart ↦ apart
      | inr c ↦ absurd (c.clash.meet (clear.each c.first c.second c.has_first c.has_second
          (omega (arith, c.named_first, c.named_second, c.ordered)) c.clash.share))
    ]

-- the entry of a slot is sent
sent_by : (plant : Plant) (bundles : List Bundle) (ways : List (List Way)) (device port f : ℕ) (entries : List Entry) (own : List Way)
    (slots : List SendSlot) (s : SendSlot) → IsPort plant bundles ways device port entries own slots
    → (i : IsSlotOf entries own port (length entries) s) → s.frame.0 ≡ f → IsSending (setup_of plant bundles) device port f i.e (window_of i.way)
sent_by plant bundles ways device port f entries own slots s p i named =
    let is_held = ap (λ (xs : List Entry). slice_get xs i.place) p.row.is ∙ i.stands in
    let place = placed plant bundles ways device i.place p.row.b own i.e i.way p.plan p.row.held p.row.rows is_held i.comes in
    subst (λ (g : ℕ). IsSending (setup_of plant bundles) device port g i.e (window_of i.way))
    (ap (λ (t : SendSlot). t.frame.0) (sym i.is) ∙ named) (sending plant bundles device port i.e i.way place i.leaves)

clash_breaks : (plant : Plant) (bundles : List Bundle) (ways : List (List Way)) (device port f g : ℕ) (entries : List Entry) (own : List Way)
    (slots : List SendSlot) → IsPort plant bundles ways device port entries own slots → (c : IsClash plant.window slots f g)
    → ¬ KeepsApart plant bundles (record { device = record { 0 = device }; port = port; frame = f; other = g })
clash_breaks plant bundles ways device port f g entries own slots p c holds =
    let i = p.slots_of.each c.first c.has_first in
    let j = p.slots_of.each c.second c.has_second in
    let clash : Clash plant.window (slot_of i.e i.way) (slot_of j.e j.way) =
    subst (λ (s : SendSlot). Clash plant.window (slot_of i.e i.way) s) j.is (subst (λ (s : SendSlot). Clash plant.window s c.second) i.is c.clash) in
    clash.meet (holds i.e j.e (window_of i.way) (window_of j.way) c.ordered
    (sent_by plant bundles ways device port f entries own slots c.first p i c.named_first)
    (sent_by plant bundles ways device port g entries own slots c.second p j c.named_second) clash.share)

not_before : (at : Place) (device port f g : ℕ) → IsLess at (record { device = record { 0 = device }; port = port; frame = f; other = g })
    → IsAt device port at → IsUpTo f g at.frame at.other → ⊥
not_before at device port f g (inl l) (of, at_port) up = omega arith
not_before at device port f g (inr (same, inl l)) (of, at_port) up = omega arith
not_before at device port f g (inr (same, inr (one, inl l))) (of, at_port) up = omega arith
not_before at device port f g (inr (same, inr (one, inr (two, l)))) (of, at_port) up = omega arith

pub port_clashes : (plant : Plant) (bundles : List Bundle) (ways : List (List Way)) (device : DevId) (port : ℕ) (entries : List Entry) (own : List Way)
    (slots : List SendSlot) (frame other : FrameId) → IsPort plant bundles ways device.0 port entries own slots
    → IsLeastClash plant.window slots frame.0 other.0
    → IsLeastOf (IsAt device.0 port) (KeepsApart plant bundles) (record { device = device; port = port; frame = frame.0; other = other.0 })
port_clashes plant bundles ways device port entries own slots frame other p c = record {
  within = (refl, refl);
  breaks = clash_breaks plant bundles ways device.0 port frame.0 other.0 entries own slots p c.is;
  least = λ at here before d e v w less sends_d sends_e share.
      elim (sent_apart plant bundles ways device.0 port entries own slots p at.frame at.other d e v w less
      (at_place (setup_of plant bundles) device.0 port at.frame at d v here sends_d)
      (at_place (setup_of plant bundles) device.0 port at.other at e w here sends_e) share) [
        | inl apart ↦ apart
        | inr clash ↦ absurd (not_before at device.0 port frame.0 other.0 before here (c.least at.frame at.other clash))
      ];
}

-- no frame leaves by a port past the last
pub apart-later : (plant : Plant) (bundles : List Bundle) (at : Place) → IsPlan plant bundles → TX_BITS ≤ at.port → KeepsApart plant bundles at
apart-later plant bundles at plan past d e v w less sends_d sends_e share =
    absurd (sending-later plant bundles at.device.0 at.port at.frame d v plan past sends_d)

-- a device's entries and ways are timed
pub row_timed : (plant : Plant) (bundles : List Bundle) (ways : List (List Way)) (device : ℕ) (entries : List Entry) (own : List Way)
    → IsWayPlan plant bundles ways → IsRow bundles ways device entries own → AreTimed entries own
row_timed plant bundles ways device entries own w r =
    let valid = bundle_valid plant bundles device r.b w.plan r.held in
    record {
      count = row_count plant bundles ways device entries own w r;
      ascending = subst (λ (xs : List Entry). IsStrictlyIncreasing (frames_of xs)) r.is valid.frames.ascending;
      each = λ n e way is at.
          let p = placed plant bundles ways device n r.b own e way w r.held r.rows (ap (λ (xs : List Entry). slice_get xs n) r.is ∙ is) at in
          record { valid = p.valid; ordered = p.way.ordered; small = p.way.small };
    }
