-- The definitions computed where the device in the middle forwards in relative time: there a window is 2000 wide, so
-- that the second frame starts at 8720, and its red period ends at 21240.
use Rattle.std.proofs.Common.{◌≡◌, ℕ, zero, suc, ◌+◌, ◌<◌, ◌≤◌, ◌⊎◌, List, [], ◌∷◌, Some, true, refl, inl, inr, arith, slice_get, sym, ◌∙◌, ap, subst}
use Rattle.std.specs.Prelude.{IsBitSet, Contains}
use Rattle.std.proofs.lemmas.Bool.{cases_Bool, or_cases, both_ways}
use Rattle.std.proofs.lemmas.Option.{same_Some}
use Rattle.irt_base.specs.Wiring.{begins_at, ends_at, touches, link_at, far_end, peer_of, hop_of}
use Rattle.irt_base.specs.declared.blocks.Entry.{Entry}
use Rattle.irt_base.specs.declared.numbers.DevId.{DevId}
use Rattle.irt_base.specs.declared.numbers.PortNo.{PortNo}
use Rattle.irt_base.specs.declared.plants.Link.{Link}
use Rattle.irt_base.specs.declared.plants.Mode.TheVariants as modes
use Rattle.irt_base.specs.declared.plants.Plant.{Plant}
use Rattle.plan_rules.specs.Arrival.{IsPlanned}
use Rattle.plan_rules.specs.Way.{Setup, entry_at, IsAnchor}
use Rattle.plan_rules.specs.SendWindow.{SendWindow, HasWindow, at_anchor, behind}
use Rattle.fit_rules.specs.declared.frame_plan.FramePlan.{FramePlan}
use Rattle.fit_rules.specs.Shape.{alone}
use Rattle.fit_rules.specs.Fit.{IsUsing, AreClear, IsClearAt, HasRoom, IsFitted, IsLastEnd, end_time}
use Rattle.fit_rules.proofs.Entries.{no_entry, entry_from, entry_stands}
use Rattle.fit_rules.proofs.Line.{line, link, entry, plan, device, from, at, bit_one, bit_two, bit_four, own_window, leaves_first}
use Rattle.fit_rules.proofs.Links.{found, mapped, begins, far_of_begin, far_of_end}
use Rattle.fit_rules.proofs.Lists.{place_of}

abbrev relative : Plant
relative = line modes.Relative

abbrev alone_in : ℕ → ℕ → Setup
alone_in frame first = alone relative (plan frame first 0)

-- the window at the device in the middle
abbrev behind_first : ℕ → SendWindow
behind_first first = record { lo = first + 1800; hi = first + 3800; anchor = 0 }

-- ---- the one link to the middle

abbrev IsOne : Link → Type 0
IsOne l = (link 0 1 1 1 ≡ l) ⊎ (link 1 2 2 1 ≡ l)

to_middle : (u p : ℕ) (l : Link) → IsOne l → touches u p l ≡ true → far_end u p l ≡ from 1 1 → (u ≡ 0) × (p ≡ 1)
to_middle u p l one touched far = elim (cases_Bool (begins_at u p l)) [
  | inl so ↦ begun one so (sym (far_of_begin u p l so) ∙ far)
  | inr other ↦ elim (or_cases (begins_at u p l) (ends_at u p l) touched) [
    | inl so ↦ absurd (both_ways _ other so)
    | inr so ↦ absurd (ended one (sym (far_of_end u p l other) ∙ far))
  ]
]
  where
    begun : IsOne l → begins_at u p l ≡ true → ((l.b, l.b_port) ≡ from 1 1) → (u ≡ 0) × (p ≡ 1)
    begun (inl same) so is =
        let (one, two) = begins u p l so in
        (sym one ∙ ap (λ (x : Link). x.a.0) (sym same), sym two ∙ ap (λ (x : Link). x.a_port.0) (sym same))
    begun (inr same) so is =
        let two : l.b.0 ≡ 2 = ap (λ (x : Link). x.b.0) (sym same) in
        let one : l.b.0 ≡ 1 = ap (λ (x : DevId × PortNo). x.0.0) is in
        absurd (omega arith)

    ended : IsOne l → ((l.a, l.a_port) ≡ from 1 1) → ⊥
    ended (inl same) is =
        let none : l.a.0 ≡ 0 = ap (λ (x : Link). x.a.0) (sym same) in
        let one : l.a.0 ≡ 1 = ap (λ (x : DevId × PortNo). x.0.0) is in
        omega arith
    ended (inr same) is =
        let two : l.a_port.0 ≡ 2 = ap (λ (x : Link). x.a_port.0) (sym same) in
        let one : l.a_port.0 ≡ 1 = ap (λ (x : DevId × PortNo). x.1.0) is in
        omega arith

first_parent : (u p : ℕ) → peer_of relative u p ≡ Some (from 1 1) → (u ≡ 0) × (p ≡ 1)
first_parent u p is =
    let (l, there, far) = mapped (far_end u p) (link_at relative u p) (from 1 1) is in
    let (touched, one) = found (touches u p) IsOne relative.links l (inl refl, (inr refl, tt)) there in
    to_middle u p l one touched far

-- ---- what is sent

starts_first : (frame first : ℕ) → IsAnchor (alone_in frame first) 0 (entry frame first 0 2)
starts_first frame first = inl refl

goes_behind : (frame first : ℕ) → ¬ IsAnchor (alone_in frame first) 1 (entry frame 0 1 4)
goes_behind frame first (inl own) = omega (arith, own)
goes_behind frame first (inr forwards) = absurd (cc (forwards.0))

stands_first : (frame first : ℕ) → entry_at (alone_in frame first) 0 frame ≡ Some (entry frame first 0 2)
stands_first frame first = entry_stands relative (plan frame first 0).entries 0 frame (entry frame first 0 2) refl refl

stands_next : (frame first : ℕ) → entry_at (alone_in frame first) 1 frame ≡ Some (entry frame 0 1 4)
stands_next frame first = entry_stands relative (plan frame first 0).entries 1 frame (entry frame 0 1 4) refl refl

using_first : (frame first : ℕ) → IsUsing relative (plan frame first 0) 0 1 (entry frame first 0 2) (at first 0)
using_first frame first = record {
  stands = stands_first frame first;
  leaves = leaves_first frame first;
  sends = at_anchor 0 (entry frame first 0 2) (stands_first frame first) (starts_first frame first);
}

using_next : (frame first : ℕ) → IsUsing relative (plan frame first 0) 1 2 (entry frame 0 1 4) (behind_first first)
using_next frame first = record {
  stands = stands_next frame first;
  leaves = record { from_one = omega arith; bit = λ none. absurd (cc) };
  sends =
      behind 1 (entry frame 0 1 4) 0 1 800 (at first 0) (device 98 modes.Relative 2) (stands_next frame first) (goes_behind frame first)
      (record { received = omega arith; sent = (entry frame first 0 2, stands_first frame first, leaves_first frame first); leads = refl })
      (using_first frame first).sends refl refl;
}

-- the window at the device in the middle is that one
middle_window : (frame first : ℕ) (w : SendWindow) → HasWindow (alone_in frame first) frame 1 w → behind_first first ≡ w
middle_window frame first w sends = go 1 w refl sends
  where
    same_entry : (d : ℕ) (e : Entry) → d ≡ 1 → entry_at (alone_in frame first) d frame ≡ Some e → entry frame 0 1 4 ≡ e
    same_entry d e one is =
        same_Some (entry frame 0 1 4) e (entry_from relative (plan frame first 0).entries 1 frame e
        (subst (λ n. entry_at (alone_in frame first) n frame ≡ Some e) one is))

    go : (d : ℕ) (v : SendWindow) → d ≡ 1 → HasWindow (alone_in frame first) frame d v → behind_first first ≡ v
    go _ _ one (at_anchor d e is anchor) =
        absurd (goes_behind frame first (subst (IsAnchor (alone_in frame first) 1) (sym (same_entry d e one is))
        (subst (λ n. IsAnchor (alone_in frame first) n e) one anchor)))
    go _ _ one (behind d e parent port hop v dev is other comes sends hops held) =
        let same = same_entry d e one is in
        let rx : e.rx_port ≡ 1 = ap (λ (x : Entry). x.rx_port) (sym same) in
        let leads : peer_of relative parent port ≡ Some (from 1 1) = comes.leads ∙ (λ i. Some (from (one i) (rx i))) in
        let (up, by) = first_parent parent port leads in
        let window : v ≡ at first 0 =
        own_window (alone_in frame first) frame 0 (entry frame first 0 2) v (stands_first frame first) (starts_first frame first)
        (subst (λ n. HasWindow (alone_in frame first) frame n v) up sends) in
        let long : 800 ≡ hop = same_Some 800 hop ((λ i. hop_of relative ((sym up) i) ((sym by) i)) ∙ hops) in
        let middle : device 98 modes.Relative 2 ≡ dev =
        same_Some (device 98 modes.Relative 2) dev (ap (slice_get relative.devices) (sym one) ∙ held) in
        let lo : first + 1800 ≡ v.lo + (hop + dev.bmin) =
        (let a : first + 1800 ≡ first + (800 + 1000) = omega arith in a) ∙ (λ i. ((sym window) i).lo + (long i + (middle i).bmin)) in
        let hi : first + 3800 ≡ v.hi + (hop + dev.bmax) =
        (let a : first + 3800 ≡ first + (800 + 3000) = omega arith in a) ∙ (λ i. ((sym window) i).hi + (long i + (middle i).bmax)) in
        λ i. record { lo = lo i; hi = hi i; anchor = ((sym window) i).anchor }

-- the sendings of a plan
data IsSent (frame first : ℕ) : ℕ → ℕ → Entry → SendWindow → Type 0 where
  by_first : IsSent frame first 0 1 (entry frame first 0 2) (at first 0)
  by_next : IsSent frame first 1 2 (entry frame 0 1 4) (behind_first first)

sent_of : (frame first v port : ℕ) (e : Entry) (w : SendWindow) → IsUsing relative (plan frame first 0) v port e w → IsSent frame first v port e w
sent_of frame first zero port e w sending =
    let same = same_Some (entry frame first 0 2) e (entry_from relative (plan frame first 0).entries 0 frame e sending.stands) in
    let window = own_window (alone_in frame first) frame 0 (entry frame first 0 2) w (stands_first frame first) (starts_first frame first) sending.sends in
    let ports = bit_two port sending.leaves.from_one (subst (λ (x : Entry). IsBitSet x.tx port) (sym same) sending.leaves.bit) in
    subst (λ p. IsSent frame first 0 p e w) (sym ports)
    (subst (IsSent frame first 0 1 e) (sym window) (subst (λ x. IsSent frame first 0 1 x (at first 0)) same by_first))
sent_of frame first (suc zero) port e w sending =
    let same = same_Some (entry frame 0 1 4) e (entry_from relative (plan frame first 0).entries 1 frame e sending.stands) in
    let ports = bit_four port sending.leaves.from_one (subst (λ (x : Entry). IsBitSet x.tx port) (sym same) sending.leaves.bit) in
    subst (λ p. IsSent frame first 1 p e w) (sym ports)
    (subst (IsSent frame first 1 2 e) (middle_window frame first w sending.sends) (subst (λ x. IsSent frame first 1 2 x (behind_first first)) same by_next))
sent_of frame first (suc (suc zero)) port e w sending =
    let same = same_Some (entry frame 0 1 1) e (entry_from relative (plan frame first 0).entries 2 frame e sending.stands) in
    absurd (bit_one port sending.leaves.from_one (subst (λ (x : Entry). IsBitSet x.tx port) (sym same) sending.leaves.bit))
sent_of frame first (suc (suc (suc v))) port e w sending =
    no_entry e (entry_from relative (plan frame first 0).entries (suc (suc (suc v))) frame e sending.stands)

-- ---- the second frame, beside the first

abbrev placed : List FramePlan
placed = plan 0x100 0 0 ∷ []

one_placed : (other : FramePlan) → Contains placed other → plan 0x100 0 0 ≡ other
one_placed other among = go (place_of placed other among)
  where
    go : (n : ℕ) × (slice_get placed n ≡ Some other) → plan 0x100 0 0 ≡ other
    go (zero, is) = same_Some (plan 0x100 0 0) other is
    go (suc n, is) = no_entry other is

clear_first : (x : ℕ) (f : Entry) (v : SendWindow) → 8720 ≤ x → IsSent 0x100 0 0 1 f v → AreClear relative (entry 0x101 x 0 2) (at x 0) f v
clear_first x _ _ low by_first = λ shared. inr (omega (arith, low))

clear_next : (x : ℕ) (f : Entry) (v : SendWindow) → 8720 ≤ x → IsSent 0x100 0 1 2 f v → AreClear relative (entry 0x101 0 1 4) (behind_first x) f v
clear_next x _ _ low by_next = λ shared. inr (omega (arith, low))

hangs : (x v port : ℕ) (e : Entry) (w : SendWindow) → 8720 ≤ x → x ≤ 237480 → IsSent 0x101 x v port e w → HasRoom relative placed v port e w
hangs x _ _ _ _ low high by_first = record {
  red = omega (arith, high);
  apart = λ other f u among using.
      clear_first x f u low (sent_of 0x100 0 0 1 f u (subst (λ (p : FramePlan). IsUsing relative p 0 1 f u) (sym (one_placed other among)) using));
}
hangs x _ _ _ _ low high by_next = record {
  red = omega (arith, high);
  apart = λ other f u among using.
      clear_next x f u low (sent_of 0x100 0 1 2 f u (subst (λ (p : FramePlan). IsUsing relative p 1 2 f u) (sym (one_placed other among)) using));
}

-- before 8720 the first frame may be on the wire of the device in the middle
not_clear : (y : ℕ) → y < 8720 → ¬ IsClearAt relative placed (plan 0x101 8720 0) 0 y
not_clear y early clear =
    elim ((clear 1 2 (entry 0x101 0 1 4) (behind_first y) (using_next 0x101 y) refl).apart (plan 0x100 0 0) (entry 0x100 0 1 4) (behind_first 0)
    (0, omega arith, refl) (using_next 0x100 0) (0, refl, refl)) [
      | inl before ↦ absurd (omega (arith, before))
      | inr after ↦ absurd (omega (arith, after, early))
    ]

second_frame : IsFitted relative placed (plan 0x101 8720 0) 0 (entry 0x101 8720 0 2)
second_frame = record {
  ready = 0;
  is_ready = inl (refl, refl);
  least = record {
    reached = omega arith;
    holds = λ v port e w sending on. hangs 8720 v port e w (omega arith) (omega arith) (sent_of 0x101 8720 v port e w sending);
    least = λ y from_zero less. not_clear y less;
  };
}

ends_by : (v port : ℕ) (e : Entry) (w : SendWindow) → IsSent 0x101 8720 v port e w → end_time relative v e w ≤ 21240
ends_by _ _ _ _ by_first = omega arith
ends_by _ _ _ _ by_next = omega arith

last_end : IsLastEnd relative (plan 0x101 8720 0) 21240
last_end = record {
  bound = λ v port e w sending. ends_by v port e w (sent_of 0x101 8720 v port e w sending);
  some = (1, 2, entry 0x101 0 1 4, behind_first 8720, using_next 0x101 8720, refl);
}

-- the last device has a frame 12320 ns after the first one starts it
planned : (frame first : ℕ) → IsPlanned (alone_in frame first) 2 frame (first + 12320)
planned frame first = record {
  e = entry frame 0 1 1;
  parent = 1;
  port = 2;
  hop = 800;
  window = behind_first first;
  stands = entry_stands relative (plan frame first 0).entries 2 frame (entry frame 0 1 1) refl refl;
  comes = record {
    received = omega arith;
    sent = (entry frame 0 1 4, stands_next frame first, (using_next frame first).leaves);
    leads = refl;
  };
  hops = refl;
  sends = (using_next frame first).sends;
  is = omega arith;
}

first_planned : IsPlanned (alone_in 0x100 0) 2 0x100 12320
first_planned = planned 0x100 0

second_planned : IsPlanned (alone_in 0x101 8720) 2 0x101 21040
second_planned = planned 0x101 8720
