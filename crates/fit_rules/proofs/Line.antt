-- A line of three devices: the first provides two frames of 40 bytes to the last, over the one in the middle. Each hop
-- takes 800 ns, each bridge 1000 to 3000. The one in the middle forwards in absolute or in relative time.
use Rattle.std.proofs.Common.{◌≡◌, ℕ, zero, suc, ◌<◌, ◌≤◌, ◌^◌, ◌↔◌, ◌⊎◌, List, [], ◌∷◌, Some, None, refl, inl, inr, arith, replicate, slice_get, sym, ◌∙◌, ap, subst}
use Rattle.std.specs.Prelude.{IsBitSet}
use Rattle.std.proofs.lemmas.Nat.Bits.{bit_at_above}
use Rattle.std.proofs.lemmas.Option.{same_Some}
use Rattle.irt_base.specs.declared.blocks.Entry.{Entry}
use Rattle.irt_base.specs.declared.blocks.PortDelay.{PortDelay}
use Rattle.irt_base.specs.declared.numbers.DevId.{DevId}
use Rattle.irt_base.specs.declared.numbers.PortNo.{PortNo}
use Rattle.irt_base.specs.declared.plants.Clocks.TheVariants as clocks
use Rattle.irt_base.specs.declared.plants.Demand.{Demand}
use Rattle.irt_base.specs.declared.plants.Device.{Device}
use Rattle.irt_base.specs.declared.plants.Link.{Link}
use Rattle.irt_base.specs.declared.plants.Mode.{Mode}
use Rattle.irt_base.specs.declared.plants.Mode.TheVariants as modes
use Rattle.irt_base.specs.declared.plants.Plant.{Plant}
use Rattle.irt_route.specs.Trees.{Parents, parent_at}
use Rattle.plan_rules.specs.Way.{Setup, entry_at, Leaves, IsAnchor}
use Rattle.plan_rules.specs.SendWindow.{SendWindow, HasWindow, at_anchor, behind}
use Rattle.plan_rules.specs.Tree.{Consumes}
use Rattle.fit_rules.specs.declared.frame_plan.FramePlan.{FramePlan}
use Rattle.fit_rules.specs.Shape.{entry_of, IsOn, IsSentBy, IsReceivedFrom, IsRatioFor, IsEntryOf}
use Rattle.fit_rules.proofs.Bytes.{one_at}
use Rattle.fit_rules.proofs.Entries.{no_entry}
use Rattle.fit_rules.proofs.Lists.{place_of}

abbrev pub ports : ℕ → List PortDelay
ports count = replicate count (record { tx = 100; rx = 200 })

abbrev pub device : ℕ → Mode → ℕ → Device
device letter mode count = record { name = letter ∷ []; mode = mode; bmin = 1000; bmax = 3000; ports = ports count }

abbrev pub link : ℕ → ℕ → ℕ → ℕ → Link
link a p b q = record { a = record { 0 = a }; a_port = record { 0 = p }; b = record { 0 = b }; b_port = record { 0 = q }; delay = 500 }

abbrev pub demand : ℕ → Demand
demand frame = record { frame = record { 0 = frame }; provider = record { 0 = 0 }; consumers = record { 0 = 2 } ∷ []; length = 40; update = 1000000 }

abbrev pub line : Mode → Plant
line mode = record {
  factor = 32;
  window = 1000;
  red_max = 250000;
  orange = 0;
  clocks = clocks.World;
  sync = record { send = 32; timeout = 6; drift = 0; stamp = 0; loss = 0 };
  devices = device 97 modes.Absolute 1 ∷ device 98 mode 2 ∷ device 99 modes.Absolute 1 ∷ [];
  links = link 0 1 1 1 ∷ link 1 2 2 1 ∷ [];
  demands = demand 0x100 ∷ demand 0x101 ∷ [];
  traffic = [];
  apps = [];
}

abbrev pub from : ℕ → ℕ → DevId × PortNo
from device port = (record { 0 = device }, record { 0 = port })

-- the tree of both demands
abbrev pub parents : Parents
parents = None ∷ Some (from 0 1) ∷ Some (from 1 2) ∷ []

abbrev pub entry : ℕ → ℕ → ℕ → ℕ → Entry
entry frame offset rx_port tx =
    record { send_offset = offset; data_length = 40; ratio = 1; phase = 1; frame = record { 0 = frame }; rx_port = rx_port; tx = tx }

-- the first device sends by its port 1, the next one by its port 2, the last one keeps it
abbrev pub plan : ℕ → ℕ → ℕ → FramePlan
plan frame first second = record {
  frame = record { 0 = frame };
  entries = Some (entry frame first 0 2) ∷ Some (entry frame second 1 4) ∷ Some (entry frame 0 1 1) ∷ [];
}

-- ---- bits

pub no_high_bit : (n w k : ℕ) → n < 2 ^ w → w ≤ k → IsBitSet n k → ⊥
no_high_bit n w k small past set = omega (arith, one_at n k set, bit_at_above n w k small past)

pub bit_two : (k : ℕ) → 1 ≤ k → IsBitSet 2 k → k ≡ 1
bit_two zero one set = absurd (omega (arith, one))
bit_two (suc zero) one set = refl
bit_two (suc (suc k)) one set = absurd (no_high_bit 2 2 (suc (suc k)) (omega arith) (omega arith) set)

pub bit_four : (k : ℕ) → 1 ≤ k → IsBitSet 4 k → k ≡ 2
bit_four zero one set = absurd (omega (arith, one))
bit_four (suc zero) one set = absurd (set refl)
bit_four (suc (suc zero)) one set = refl
bit_four (suc (suc (suc k))) one set = absurd (no_high_bit 4 3 (suc (suc (suc k))) (omega arith) (omega arith) set)

pub bit_one : (k : ℕ) → 1 ≤ k → IsBitSet 1 k → ⊥
bit_one k one set = no_high_bit 1 1 k (omega arith) one set

-- ---- the shape

pub child_of : (child device port : ℕ) → parent_at parents child ≡ Some (from device port) →
    ((child ≡ 1) × (device ≡ 0) × (port ≡ 1)) ⊎ ((child ≡ 2) × (device ≡ 1) × (port ≡ 2))
child_of zero device port at = no_entry (from device port) at
child_of (suc zero) device port at =
    let same = same_Some (from 0 1) (from device port) at in
    inl (refl, ap (λ (x : DevId × PortNo). x.0.0) (sym same), ap (λ (x : DevId × PortNo). x.1.0) (sym same))
child_of (suc (suc zero)) device port at =
    let same = same_Some (from 1 2) (from device port) at in
    inr (refl, ap (λ (x : DevId × PortNo). x.0.0) (sym same), ap (λ (x : DevId × PortNo). x.1.0) (sym same))
child_of (suc (suc (suc child))) device port at = no_entry (from device port) at

pub sent_first : (port : ℕ) → 1 ≤ port → IsBitSet 2 port ↔ IsSentBy parents 0 port
sent_first port one = (
  λ set. (1, ap (λ (p : ℕ). Some (from 0 p)) (sym (bit_two port one set))),
  λ sent. elim (child_of sent.0 0 port sent.1) [
    | inl at ↦ subst (IsBitSet 2) (sym at.2) (λ none. absurd (cc))
    | inr at ↦ absurd (omega (arith, at.1))
  ],
)

pub sent_next : (port : ℕ) → 1 ≤ port → IsBitSet 4 port ↔ IsSentBy parents 1 port
sent_next port one = (
  λ set. (2, ap (λ (p : ℕ). Some (from 1 p)) (sym (bit_four port one set))),
  λ sent. elim (child_of sent.0 1 port sent.1) [
    | inl at ↦ absurd (omega (arith, at.1))
    | inr at ↦ subst (IsBitSet 4) (sym at.2) (λ none. absurd (cc))
  ],
)

pub sent_last : (port : ℕ) → 1 ≤ port → IsBitSet 1 port ↔ IsSentBy parents 2 port
sent_last port one = (
  λ set. absurd (bit_one port one set),
  λ sent. elim (child_of sent.0 2 port sent.1) [ inl at ↦ absurd (omega (arith, at.1)) | inr at ↦ absurd (omega (arith, at.1)) ],
)

pub not_kept : (frame device : ℕ) → Consumes (demand frame) device → device ≡ 2
not_kept frame device consumes = go (place_of (demand frame).consumers (record { 0 = device }) consumes)
  where
    go : (n : ℕ) × (slice_get (demand frame).consumers n ≡ Some (record { 0 = device })) → device ≡ 2
    go (zero, is) = ap (λ (d : DevId). d.0) (sym (same_Some (let d : DevId = record { 0 = 2 } in d) (record { 0 = device }) is))
    go (suc n, is) = no_entry (let d : DevId = record { 0 = device } in d) is

pub each_entry : (mode : Mode) (frame first second device : ℕ) (e : Entry) → entry_of (plan frame first second) device ≡ Some e →
    IsEntryOf (line mode) parents (demand frame) 1 1 device e
each_entry mode frame first second zero e is = subst (IsEntryOf (line mode) parents (demand frame) 1 1 0) (same_Some (entry frame first 0 2) e is) (record {
  on = inl refl;
  frame = refl;
  length = refl;
  ratio_is = refl;
  phase_is = refl;
  provided = λ own. refl;
  received = λ up at. no_entry up at;
  sent = sent_first;
  kept = (λ set. absurd (set refl), λ consumes. absurd (omega (arith, not_kept frame 0 consumes)));
  small = omega arith;
})
each_entry mode frame first second (suc zero) e is = subst (IsEntryOf (line mode) parents (demand frame) 1 1 1) (same_Some (entry frame second 1 4) e is) (record {
  on = inr (from 0 1, refl);
  frame = refl;
  length = refl;
  ratio_is = refl;
  phase_is = refl;
  provided = λ own. absurd (omega (arith, own));
  received = λ up at. subst (λ (x : DevId × PortNo). IsReceivedFrom (line mode) 1 (entry frame second 1 4) x) (same_Some (from 0 1) up at)
      (record { from_one = omega arith; leads = refl });
  sent = sent_next;
  kept = (λ set. absurd (set refl), λ consumes. absurd (omega (arith, not_kept frame 1 consumes)));
  small = omega arith;
})
each_entry mode frame first second (suc (suc zero)) e is = subst (IsEntryOf (line mode) parents (demand frame) 1 1 2) (same_Some (entry frame 0 1 1) e is) (record {
  on = inr (from 1 2, refl);
  frame = refl;
  length = refl;
  ratio_is = refl;
  phase_is = refl;
  provided = λ own. absurd (omega (arith, own));
  received = λ up at. subst (λ (x : DevId × PortNo). IsReceivedFrom (line mode) 2 (entry frame 0 1 1) x) (same_Some (from 1 2) up at)
      (record { from_one = omega arith; leads = refl });
  sent = sent_last;
  kept = (λ set. (0, omega arith, refl), λ consumes. (λ none. absurd (cc)));
  small = omega arith;
})
each_entry mode frame first second (suc (suc (suc device))) e is = no_entry e is

pub full_tree : (frame first second device : ℕ) → IsOn (demand frame) parents device → (e : Entry) × (entry_of (plan frame first second) device ≡ Some e)
full_tree frame first second zero on = (entry frame first 0 2, refl)
full_tree frame first second (suc zero) on = (entry frame second 1 4, refl)
full_tree frame first second (suc (suc zero)) on = (entry frame 0 1 1, refl)
full_tree frame first second (suc (suc (suc device))) (inl own) = absurd (omega (arith, own))
full_tree frame first second (suc (suc (suc device))) (inr (up, at)) = no_entry up at

pub one_cycle : (mode : Mode) (frame : ℕ) → IsRatioFor (line mode) (demand frame) 1
one_cycle mode frame = record { is = inl refl; update = omega arith; greatest = λ other is fits. omega arith }

-- the window of a frame at a device that starts it
pub own_window : (s : Setup) (frame device : ℕ) (e : Entry) (w : SendWindow) → entry_at s device frame ≡ Some e → IsAnchor s device e →
    HasWindow s frame device w → w ≡ record { lo = e.send_offset; hi = e.send_offset; anchor = device }
own_window s frame _ e _ at anchor (at_anchor v f is one) =
    ap (λ (x : Entry). record { lo = x.send_offset; hi = x.send_offset; anchor = v }) (same_Some f e (sym is ∙ at))
own_window s frame _ e _ at anchor (behind v f parent port hop w d is other comes sends hops held) =
    absurd (other (subst (IsAnchor s v) (same_Some e f (sym at ∙ is)) anchor))

abbrev pub at : ℕ → ℕ → SendWindow
at offset anchor = record { lo = offset; hi = offset; anchor = anchor }

pub leaves_first : (frame first : ℕ) → Leaves (entry frame first 0 2) 1
leaves_first frame first = record { from_one = omega arith; bit = λ none. absurd (cc) }
