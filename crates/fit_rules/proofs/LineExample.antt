-- The definitions computed where the device in the middle forwards in absolute time. Beside the first frame, which
-- starts at 0 and 5800, the second one starts at 6720 and 12520, and its red period ends at 19240.
use Rattle.std.proofs.Common.{◌≡◌, ℕ, zero, suc, ◌+◌, ◌<◌, ◌≤◌, List, [], ◌∷◌, Some, refl, inl, inr, arith, slice_get, sym, ◌∙◌, ap, subst}
use Rattle.std.specs.Prelude.{IsBitSet, Contains}
use Rattle.std.proofs.lemmas.Option.{same_Some}
use Rattle.irt_base.specs.declared.blocks.Entry.{Entry}
use Rattle.irt_base.specs.declared.plants.Mode.TheVariants as modes
use Rattle.irt_base.specs.declared.plants.Plant.{Plant}
use Rattle.plan_rules.specs.Arrival.{IsPlanned}
use Rattle.plan_rules.specs.Way.{entry_at, IsAnchor}
use Rattle.plan_rules.specs.SendWindow.{SendWindow, at_anchor}
use Rattle.fit_rules.specs.declared.frame_plan.FramePlan.{FramePlan}
use Rattle.fit_rules.specs.Shape.{alone, entry_of, HasShape}
use Rattle.fit_rules.specs.Fit.{IsUsing, AreClear, IsClearAt, HasRoom, IsReady, IsFitted, IsInPhase, IsLastEnd, end_time}
use Rattle.fit_rules.proofs.Entries.{no_entry, entry_from, entry_stands}
use Rattle.fit_rules.proofs.Lists.{place_of}
use Rattle.fit_rules.proofs.Line.{parents, line, entry, plan, demand, device, at, bit_one, bit_two, bit_four, each_entry, full_tree, one_cycle, own_window, leaves_first}

abbrev absolute : Plant
absolute = line modes.Absolute

-- the first two devices start the frame
starts_first : (frame first second : ℕ) → IsAnchor (alone absolute (plan frame first second)) 0 (entry frame first 0 2)
starts_first frame first second = inl refl

starts_next : (frame first second : ℕ) → IsAnchor (alone absolute (plan frame first second)) 1 (entry frame second 1 4)
starts_next frame first second = inr (refl, (2, record { from_one = omega arith; bit = λ none. absurd (cc) }))

idle_last : (frame first second device : ℕ) (e : Entry) → entry_of (plan frame first second) device ≡ Some e →
    ¬ IsAnchor (alone absolute (plan frame first second)) device e → e.send_offset ≡ 0
idle_last frame first second zero e is idle =
    absurd (idle (subst (IsAnchor (alone absolute (plan frame first second)) 0) (same_Some (entry frame first 0 2) e is) (starts_first frame first second)))
idle_last frame first second (suc zero) e is idle =
    absurd (idle (subst (IsAnchor (alone absolute (plan frame first second)) 1) (same_Some (entry frame second 1 4) e is) (starts_next frame first second)))
idle_last frame first second (suc (suc zero)) e is idle = ap (λ (x : Entry). x.send_offset) (sym (same_Some (entry frame 0 1 1) e is))
idle_last frame first second (suc (suc (suc device))) e is idle = no_entry e is

shape : (frame first second : ℕ) → HasShape absolute parents (demand frame) 1 1 (plan frame first second)
shape frame first second = record {
  frame = refl;
  count = refl;
  each = each_entry modes.Absolute frame first second;
  full = full_tree frame first second;
  idle = idle_last frame first second;
}

-- ---- what is sent

-- the sendings of a plan
data IsSent (frame first second : ℕ) : ℕ → ℕ → Entry → SendWindow → Type 0 where
  by_first : IsSent frame first second 0 1 (entry frame first 0 2) (record { lo = first; hi = first; anchor = 0 })
  by_next : IsSent frame first second 1 2 (entry frame second 1 4) (record { lo = second; hi = second; anchor = 1 })

sent_of : (frame first second device port : ℕ) (e : Entry) (w : SendWindow) → IsUsing absolute (plan frame first second) device port e w →
    IsSent frame first second device port e w
sent_of frame first second zero port e w sending =
    let s = alone absolute (plan frame first second) in
    let same = same_Some (entry frame first 0 2) e (entry_from absolute (plan frame first second).entries 0 frame e sending.stands) in
    let window = own_window s frame 0 e w sending.stands (subst (IsAnchor s 0) same (starts_first frame first second)) sending.sends in
    let ports = bit_two port sending.leaves.from_one (subst (λ (x : Entry). IsBitSet x.tx port) (sym same) sending.leaves.bit) in
    let offset = ap (λ (x : Entry). x.send_offset) same in
    subst (λ p. IsSent frame first second 0 p e w) (sym ports)
    (subst (IsSent frame first second 0 1 e) (sym (window ∙ (λ i. record { lo = (sym offset) i; hi = (sym offset) i; anchor = 0 })))
    (subst (λ x. IsSent frame first second 0 1 x (record { lo = first; hi = first; anchor = 0 })) same by_first))
sent_of frame first second (suc zero) port e w sending =
    let s = alone absolute (plan frame first second) in
    let same = same_Some (entry frame second 1 4) e (entry_from absolute (plan frame first second).entries 1 frame e sending.stands) in
    let window = own_window s frame 1 e w sending.stands (subst (IsAnchor s 1) same (starts_next frame first second)) sending.sends in
    let ports = bit_four port sending.leaves.from_one (subst (λ (x : Entry). IsBitSet x.tx port) (sym same) sending.leaves.bit) in
    let offset = ap (λ (x : Entry). x.send_offset) same in
    subst (λ p. IsSent frame first second 1 p e w) (sym ports)
    (subst (IsSent frame first second 1 2 e) (sym (window ∙ (λ i. record { lo = (sym offset) i; hi = (sym offset) i; anchor = 1 })))
    (subst (λ x. IsSent frame first second 1 2 x (record { lo = second; hi = second; anchor = 1 })) same by_next))
sent_of frame first second (suc (suc zero)) port e w sending =
    let same = same_Some (entry frame 0 1 1) e (entry_from absolute (plan frame first second).entries 2 frame e sending.stands) in
    absurd (bit_one port sending.leaves.from_one (subst (λ (x : Entry). IsBitSet x.tx port) (sym same) sending.leaves.bit))
sent_of frame first second (suc (suc (suc device))) port e w sending =
    no_entry e (entry_from absolute (plan frame first second).entries (suc (suc (suc device))) frame e sending.stands)

stands_first : (frame first second : ℕ) → entry_at (alone absolute (plan frame first second)) 0 frame ≡ Some (entry frame first 0 2)
stands_first frame first second = entry_stands absolute (plan frame first second).entries 0 frame (entry frame first 0 2) refl refl

stands_next : (frame first second : ℕ) → entry_at (alone absolute (plan frame first second)) 1 frame ≡ Some (entry frame second 1 4)
stands_next frame first second = entry_stands absolute (plan frame first second).entries 1 frame (entry frame second 1 4) refl refl

using_first : (frame first second : ℕ) → IsUsing absolute (plan frame first second) 0 1 (entry frame first 0 2) (at first 0)
using_first frame first second = record {
  stands = stands_first frame first second;
  leaves = leaves_first frame first;
  sends = at_anchor 0 (entry frame first 0 2) (stands_first frame first second) (starts_first frame first second);
}

using_next : (frame first second : ℕ) → IsUsing absolute (plan frame first second) 1 2 (entry frame second 1 4) (at second 1)
using_next frame first second = record {
  stands = stands_next frame first second;
  leaves = record { from_one = omega arith; bit = λ none. absurd (cc) };
  sends = at_anchor 1 (entry frame second 1 4) (stands_next frame first second) (starts_next frame first second);
}

-- the second device surely has the frame 5800 ns after the first one starts it
ready_next : (frame first second : ℕ) → IsReady absolute (plan frame first second) 1 (entry frame second 1 4) (first + 5800)
ready_next frame first second = inr (record {
  hop = 800;
  window = at first 0;
  d = device 98 modes.Absolute 2;
  comes = record {
    parent = 0;
    port = 1;
    stands = stands_next frame first second;
    comes = record {
      received = omega arith;
      sent = (entry frame first 0 2, stands_first frame first second, leaves_first frame first);
      leads = refl;
    };
    hops = refl;
    sends = at_anchor 0 (entry frame first 0 2) (stands_first frame first second) (starts_first frame first second);
  };
  held = refl;
  is = omega arith;
})

-- ---- the first frame, beside none, and the second beside it

abbrev placed : List FramePlan
placed = plan 0x100 0 5800 ∷ []

one_placed : (other : FramePlan) → Contains placed other → plan 0x100 0 5800 ≡ other
one_placed other among = go (place_of placed other among)
  where
    go : (n : ℕ) × (slice_get placed n ≡ Some other) → plan 0x100 0 5800 ≡ other
    go (zero, is) = same_Some (plan 0x100 0 5800) other is
    go (suc n, is) = no_entry other is

clear_first : (x : ℕ) (f : Entry) (v : SendWindow) → 6720 ≤ x → IsSent 0x100 0 5800 0 1 f v → AreClear absolute (entry 0x101 x 0 2) (at x 0) f v
clear_first x _ _ low by_first = λ shared. inr (omega (arith, low))

clear_next : (x : ℕ) (f : Entry) (v : SendWindow) → 12520 ≤ x → IsSent 0x100 0 5800 1 2 f v → AreClear absolute (entry 0x101 x 1 4) (at x 1) f v
clear_next x _ _ low by_next = λ shared. inr (omega (arith, low))

-- what hangs on an anchor with an offset, in words of one sending each
hangs_first : (x second device port : ℕ) (e : Entry) (w : SendWindow) → 6720 ≤ x → x ≤ 243280 → IsSent 0x101 x second device port e w → w.anchor ≡ 0 →
    HasRoom absolute placed device port e w
hangs_first x second _ _ _ _ low high by_first anchor = record {
  red = omega (arith, high);
  apart = λ other f v among using.
      clear_first x f v low (sent_of 0x100 0 5800 0 1 f v (subst (λ (p : FramePlan). IsUsing absolute p 0 1 f v) (sym (one_placed other among)) using));
}
hangs_first x second _ _ _ _ low high by_next anchor = absurd (omega (arith, anchor))

hangs_next : (first x device port : ℕ) (e : Entry) (w : SendWindow) → 12520 ≤ x → x ≤ 243280 → IsSent 0x101 first x device port e w → w.anchor ≡ 1 →
    HasRoom absolute placed device port e w
hangs_next first x _ _ _ _ low high by_first anchor = absurd (omega (arith, anchor))
hangs_next first x _ _ _ _ low high by_next anchor = record {
  red = omega (arith, high);
  apart = λ other f v among using.
      clear_next x f v low (sent_of 0x100 0 5800 1 2 f v (subst (λ (p : FramePlan). IsUsing absolute p 1 2 f v) (sym (one_placed other among)) using));
}

-- before 6720 the first frame is on the wire
not_clear : (y : ℕ) → y < 6720 → ¬ IsClearAt absolute placed (plan 0x101 6720 12520) 0 y
not_clear y early clear =
    elim ((clear 0 1 (entry 0x101 y 0 2) (at y 0) (using_first 0x101 y 12520) refl).apart (plan 0x100 0 5800) (entry 0x100 0 0 2) (at 0 0) (0, omega arith, refl)
    (using_first 0x100 0 5800) (0, refl, refl)) [
      | inl before ↦ absurd (omega (arith, before))
      | inr after ↦ absurd (omega (arith, after, early))
    ]

fitted_first : IsFitted absolute placed (plan 0x101 6720 12520) 0 (entry 0x101 6720 0 2)
fitted_first = record {
  ready = 0;
  is_ready = inl (refl, refl);
  least = record {
    reached = omega arith;
    holds = λ v port e w sending hangs.
        hangs_first 6720 12520 v port e w (omega arith) (omega arith) (sent_of 0x101 6720 12520 v port e w sending) hangs;
    least = λ y from_zero less. not_clear y less;
  };
}

fitted_next : IsFitted absolute placed (plan 0x101 6720 12520) 1 (entry 0x101 12520 1 4)
fitted_next = record {
  ready = 12520;
  is_ready = ready_next 0x101 6720 12520;
  least = record {
    reached = omega arith;
    holds = λ v port e w sending hangs.
        hangs_next 6720 12520 v port e w (omega arith) (omega arith) (sent_of 0x101 6720 12520 v port e w sending) hangs;
    least = λ y reached less. absurd (omega (arith, reached, less));
  };
}

no_anchor : (frame first second : ℕ) → ¬ IsAnchor (alone absolute (plan frame first second)) 2 (entry frame 0 1 1)
no_anchor frame first second (inl own) = absurd (omega (arith, own))
no_anchor frame first second (inr sends) = bit_one sends.1.0 sends.1.1.from_one sends.1.1.bit

all_fitted : (v : ℕ) (e : Entry) → entry_of (plan 0x101 6720 12520) v ≡ Some e → IsAnchor (alone absolute (plan 0x101 6720 12520)) v e →
    IsFitted absolute placed (plan 0x101 6720 12520) v e
all_fitted zero e is anchor = subst (IsFitted absolute placed (plan 0x101 6720 12520) 0) (same_Some (entry 0x101 6720 0 2) e is) fitted_first
all_fitted (suc zero) e is anchor = subst (IsFitted absolute placed (plan 0x101 6720 12520) 1) (same_Some (entry 0x101 12520 1 4) e is) fitted_next
all_fitted (suc (suc zero)) e is anchor =
    absurd (no_anchor 0x101 6720 12520 (subst (IsAnchor (alone absolute (plan 0x101 6720 12520)) 2) (sym (same_Some (entry 0x101 0 1 1) e is)) anchor))
all_fitted (suc (suc (suc v))) e is anchor = no_entry e is

second_frame : IsInPhase absolute parents placed (demand 0x101) 1 (plan 0x101 6720 12520)
second_frame = record {
  ratio = 1;
  rate = one_cycle modes.Absolute 0x101;
  among = (omega arith, omega arith);
  shape = shape 0x101 6720 12520;
  fitted = λ v e is anchor. all_fitted v e (entry_from absolute (plan 0x101 6720 12520).entries v 0x101 e is) anchor;
}

-- its red period ends at 19240
ends_by : (v port : ℕ) (e : Entry) (w : SendWindow) → IsSent 0x101 6720 12520 v port e w → end_time absolute v e w ≤ 19240
ends_by _ _ _ _ by_first = omega arith
ends_by _ _ _ _ by_next = omega arith

last_end : IsLastEnd absolute (plan 0x101 6720 12520) 19240
last_end = record {
  bound = λ v port e w sending. ends_by v port e w (sent_of 0x101 6720 12520 v port e w sending);
  some = (1, 2, entry 0x101 12520 1 4, at 12520 1, using_next 0x101 6720 12520, refl);
}

-- the last device has a frame 8520 ns after the middle one starts it: at 14320 the first, at 21040 the second
planned : (frame first second : ℕ) → IsPlanned (alone absolute (plan frame first second)) 2 frame (second + 8520)
planned frame first second = record {
  e = entry frame 0 1 1;
  parent = 1;
  port = 2;
  hop = 800;
  window = at second 1;
  stands = entry_stands absolute (plan frame first second).entries 2 frame (entry frame 0 1 1) refl refl;
  comes = record {
    received = omega arith;
    sent = (entry frame second 1 4, stands_next frame first second, (using_next frame first second).leaves);
    leads = refl;
  };
  hops = refl;
  sends = (using_next frame first second).sends;
  is = omega arith;
}

first_planned : IsPlanned (alone absolute (plan 0x100 0 5800)) 2 0x100 14320
first_planned = planned 0x100 0 5800

second_planned : IsPlanned (alone absolute (plan 0x101 6720 12520)) 2 0x101 21040
second_planned = planned 0x101 6720 12520
