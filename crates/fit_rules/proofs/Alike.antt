-- Two plans of one shape: what hangs on an anchor has room in both at the same offsets, and where the offsets above
-- agree so do the ready times.
use Rattle.std.proofs.Common.{◌≡◌, ℕ, zero, suc, ◌+◌, ◌≤◌, inl, inr, List, [], ◌∷◌, Option, Some, None, cond, Bool, true, false, sym, ◌∙◌, ap, subst, arith, refl}
use Rattle.std.specs.Prelude.{slice_index_or, slice_set, option_map}
use Rattle.std.proofs.lemmas.Option.{same_Some}
use Rattle.irt_base.specs.Cycle.{SharesCycle, wire_time}
use Rattle.irt_base.specs.declared.blocks.Entry.{Entry}
use Rattle.irt_base.specs.declared.numbers.FrameId.{FrameId}
use Rattle.irt_base.specs.declared.plants.Demand.{Demand}
use Rattle.irt_base.specs.declared.plants.Plant.{Plant}
use Rattle.irt_route.specs.Trees.{Parents}
use Rattle.plan_rules.specs.Way.{Setup, entry_at, IsAnchor}
use Rattle.plan_rules.specs.SendWindow.{SendWindow, HasWindow, at_anchor, behind, slack_time}
use Rattle.plan_rules.specs.Frames.{IsForwarded, IsSending}
use Rattle.fit_rules.specs.declared.frame_plan.FramePlan.{FramePlan}
use Rattle.fit_rules.specs.Shape.{alone, moved, entry_of, with_offset, IsEntryOf, HasShape}
use Rattle.fit_rules.specs.Fit.{IsUsing, IsClearAt, HasRoom, IsReady}
use Rattle.fit_rules.specs.Moves.{IsAlike, IsShifted, offset_at, AgreeAbove}
use Rattle.fit_rules.proofs.Entries.{entry_in, no_entry, entry_from, entry_stands}
use Rattle.fit_rules.proofs.Ways.{same_way}
use Rattle.fit_rules.proofs.Sliding.{Twin, HasTwins, HasOffset, way_of, ways_of, way_leaves, way_parent, alike_self, flipped, slides, moved_offset}

alike_then : (e f g : Entry) → IsAlike e f → IsAlike f g → IsAlike e g
alike_then e f g first second = record {
  frame = second.frame ∙ first.frame;
  length = second.length ∙ first.length;
  ratio = second.ratio ∙ first.ratio;
  phase = second.phase ∙ first.phase;
  rx_port = second.rx_port ∙ first.rx_port;
  tx = second.tx ∙ first.tx;
}

abbrev moved_entries : List (Option Entry) → ℕ → ℕ → List (Option Entry)
moved_entries entries device x = slice_set entries device (option_map (with_offset x) (slice_index_or entries device None))

kept_back : (b : Bool) (r e : Entry) (x : ℕ) → cond b (Some (with_offset x r)) None ≡ Some e → Twin (cond b (Some r) None) e
kept_back true r e x is =
    let same = same_Some (with_offset x r) e is in (
      r,
      refl,
      record {
        frame = ap (λ (z : Entry). z.frame) same;
        length = ap (λ (z : Entry). z.data_length) same;
        ratio = ap (λ (z : Entry). z.ratio) same;
        phase = ap (λ (z : Entry). z.phase) same;
        rx_port = ap (λ (z : Entry). z.rx_port) same;
        tx = ap (λ (z : Entry). z.tx) same;
      },
    )
kept_back false r e x is = no_entry e is

kept_on : (b : Bool) (r e : Entry) (x : ℕ) → cond b (Some r) None ≡ Some e → Twin (cond b (Some (with_offset x r)) None) e
kept_on true r e x is =
    let same = same_Some r e is in (
      with_offset x r,
      refl,
      record {
        frame = ap (λ (z : Entry). z.frame) same;
        length = ap (λ (z : Entry). z.data_length) same;
        ratio = ap (λ (z : Entry). z.ratio) same;
        phase = ap (λ (z : Entry). z.phase) same;
        rx_port = ap (λ (z : Entry). z.rx_port) same;
        tx = ap (λ (z : Entry). z.tx) same;
      },
    )
kept_on false r e x is = no_entry e is

moved_back : (plant : Plant) (frame : ℕ) (entries : List (Option Entry)) (anchor x d : ℕ) (e : Entry) →
    entry_in plant (moved_entries entries anchor x) d frame ≡ Some e → Twin (entry_in plant entries d frame) e
moved_back plant frame [] anchor x d e is = no_entry e is
moved_back plant frame (None ∷ rest) zero x zero e is = no_entry e is
moved_back plant frame (Some r ∷ rest) zero x zero e is = kept_back _ r e x is
moved_back plant frame (row ∷ rest) zero x (suc d) e is = (e, is, alike_self e)
moved_back plant frame (row ∷ rest) (suc anchor) x zero e is = (e, is, alike_self e)
moved_back plant frame (row ∷ rest) (suc anchor) x (suc d) e is = moved_back plant frame rest anchor x d e is

moved_on : (plant : Plant) (frame : ℕ) (entries : List (Option Entry)) (anchor x d : ℕ) (e : Entry) →
    entry_in plant entries d frame ≡ Some e → Twin (entry_in plant (moved_entries entries anchor x) d frame) e
moved_on plant frame [] anchor x d e is = no_entry e is
moved_on plant frame (None ∷ rest) zero x zero e is = no_entry e is
moved_on plant frame (Some r ∷ rest) zero x zero e is = kept_on _ r e x is
moved_on plant frame (row ∷ rest) zero x (suc d) e is = (e, is, alike_self e)
moved_on plant frame (row ∷ rest) (suc anchor) x zero e is = (e, is, alike_self e)
moved_on plant frame (row ∷ rest) (suc anchor) x (suc d) e is = moved_on plant frame rest anchor x d e is

-- twins after both are moved
moved_twins : (plant : Plant) (frame : ℕ) (plan other : FramePlan) (anchor x y : ℕ) → HasTwins plant frame (alone plant plan).blocks (alone plant other).blocks →
    HasTwins plant frame (alone plant (moved plan anchor x)).blocks (alone plant (moved other anchor y)).blocks
moved_twins plant frame plan other anchor x y twins d e is =
    let (own, at, first) = moved_back plant frame plan.entries anchor x d e is in
    let (its, stands, second) = twins d own at in
    let (g, there, third) = moved_on plant frame other.entries anchor y d its stands in
    (g, there, alike_then e its g (alike_then e own its first second) third)

pub same_window : (x : ℕ) (w v : SendWindow) → IsShifted x x w v → w ≡ v
same_window x w v shifted =
    let lo : w.lo ≡ v.lo = omega (arith, shifted.lo) in
    let hi : w.hi ≡ v.hi = omega (arith, shifted.hi) in
    let anchor : w.anchor ≡ v.anchor = sym shifted.anchor in
    λ i. record { lo = lo i; hi = hi i; anchor = anchor i }

-- an alike entry has the same room
alike_room : (plant : Plant) (placed : List FramePlan) (device port : ℕ) (e g : Entry) (w : SendWindow) → IsAlike e g →
    HasRoom plant placed device port e w → HasRoom plant placed device port g w
alike_room plant placed device port e g w alike room = record {
  red = subst (λ n. w.hi + wire_time n + slack_time plant.window device w.anchor ≤ plant.red_max) (sym alike.length) room.red;
  apart = λ other f v among using shared.
      let shares : SharesCycle e.ratio e.phase f.ratio f.phase =
      subst (λ r. SharesCycle r e.phase f.ratio f.phase) alike.ratio (subst (λ p. SharesCycle g.ratio p f.ratio f.phase) alike.phase shared) in
      elim (room.apart other f v among using shares) [
        | inl before ↦ inl (subst (λ n. w.hi + wire_time n + slack_time plant.window w.anchor v.anchor ≤ v.lo) (sym alike.length) before)
        | inr after ↦ inr after
      ];
}

-- a window hangs on an anchor
pub anchor_entry : (s : Setup) (frame device : ℕ) (w : SendWindow) → HasWindow s frame device w →
    (e : Entry) × (entry_at s w.anchor frame ≡ Some e) × IsAnchor s w.anchor e
anchor_entry s frame _ _ (at_anchor d e is anchor) = (e, is, anchor)
anchor_entry s frame _ _ (behind d e parent port hop w dev is other comes sends hops held) = anchor_entry s frame parent w sends

offset_of : (plant : Plant) (frame : ℕ) (plan : FramePlan) (device : ℕ) (e : Entry) → entry_at (alone plant plan) device frame ≡ Some e →
    offset_at plan device ≡ Some e.send_offset
offset_of plant frame plan device e is = ap (option_map (λ (x : Entry). x.send_offset)) (entry_from plant plan.entries device frame e is)

module _ (plant : Plant) (parents : Parents) (demand : Demand) (ratio phase : ℕ) where
  -- entries of one device in two plans of one shape
  pub same_entry : (device : ℕ) (e g : Entry) → IsEntryOf plant parents demand ratio phase device e →
      IsEntryOf plant parents demand ratio phase device g → IsAlike e g
  same_entry device e g first second =
      let way = same_way plant parents demand ratio phase ratio phase device e g first second in record {
        frame = second.frame ∙ sym first.frame;
        length = way.length;
        ratio = second.ratio_is ∙ sym first.ratio_is;
        phase = second.phase_is ∙ sym first.phase_is;
        rx_port = way.rx_port;
        tx = way.tx;
      }

  -- the frame of an entry that stands
  pub entry_frame : (plan : FramePlan) → HasShape plant parents demand ratio phase plan →
      (device : ℕ) (e : Entry) → entry_of plan device ≡ Some e → e.frame ≡ plan.frame
  entry_frame plan shape device e is = (shape.each device e is).frame ∙ sym shape.frame

  pub stands_alone : (plan : FramePlan) → HasShape plant parents demand ratio phase plan →
      (device : ℕ) (e : Entry) → entry_of plan device ≡ Some e → entry_at (alone plant plan) device plan.frame.0 ≡ Some e
  stands_alone plan shape device e is =
      entry_stands plant plan.entries device plan.frame.0 e is (ap (λ (f : FrameId). f.0) (entry_frame plan shape device e is))

  pub twin_of : (plan other : FramePlan) →
      HasShape plant parents demand ratio phase plan → HasShape plant parents demand ratio phase other →
      (device : ℕ) (e : Entry) → entry_of plan device ≡ Some e → Twin (entry_of other device) e
  twin_of plan other first second device e is =
      let own = first.each device e is in
      let (g, at) = second.full device own.on in
      (g, at, same_entry device e g own (second.each device g at))

  pub same_frame : (plan other : FramePlan) →
      HasShape plant parents demand ratio phase plan → HasShape plant parents demand ratio phase other → plan.frame ≡ other.frame
  same_frame plan other first second = first.frame ∙ sym second.frame

  -- the other plan's twins, as setups have them
  pub twins_of : (plan other : FramePlan) →
      HasShape plant parents demand ratio phase plan → HasShape plant parents demand ratio phase other →
      HasTwins plant plan.frame.0 (alone plant plan).blocks (alone plant other).blocks
  twins_of plan other first second device e is =
      let (g, at, alike) = twin_of plan other first second device e (entry_from plant plan.entries device plan.frame.0 e is) in
      let stands = stands_alone other second device g at in
      (g, subst (λ (f : FrameId). entry_at (alone plant other) device f.0 ≡ Some g) (sym (same_frame plan other first second)) stands, alike)

  -- What has room at an offset has it in every plan of the shape.
  pub clear_alike : (placed : List FramePlan) (plan other : FramePlan) →
      HasShape plant parents demand ratio phase plan → HasShape plant parents demand ratio phase other →
      (device offset : ℕ) → IsClearAt plant placed plan device offset → IsClearAt plant placed other device offset
  clear_alike placed plan other first second anchor x clear device port g v using hangs =
      let frames = same_frame other plan second first in
      let twins = moved_twins plant other.frame.0 other plan anchor x x (twins_of other plan second first) in
      let (e, at, alike) = twins device g using.stands in
      let (w, sends, shifted) = slides plant (alone plant (moved other anchor x)).blocks (alone plant (moved plan anchor x)).blocks other.frame.0 anchor x x
      (ways_of plant other.frame.0 (alone plant (moved other anchor x)).blocks (alone plant (moved plan anchor x)).blocks twins)
      (moved_offset plant other.frame.0 other.entries anchor x) (moved_offset plant other.frame.0 plan.entries anchor x) device v hangs using.sends in
      let windows = same_window x v w shifted in
      let now : IsSending (alone plant (moved plan anchor x)) device port other.frame.0 e v =
      record { stands = at; leaves = way_leaves g e port (way_of g e alike) using.leaves; sends = subst (HasWindow (alone plant (moved plan anchor x)) other.frame.0 device) (sym windows) sends } in
      let its : IsUsing plant (moved plan anchor x) device port e v = subst (λ (f : FrameId). IsSending (alone plant (moved plan anchor x)) device port f.0 e v) frames now in
      alike_room plant placed device port e g v (flipped g e alike) (clear device port e v its hangs)

  -- Where the offsets at a window's anchor agree, it is the window of both plans.
  pub window_alike : (plan other : FramePlan) →
      HasShape plant parents demand ratio phase plan → HasShape plant parents demand ratio phase other →
      (device : ℕ) (w : SendWindow) → HasWindow (alone plant plan) plan.frame.0 device w → offset_at plan w.anchor ≡ offset_at other w.anchor →
      HasWindow (alone plant other) plan.frame.0 device w
  window_alike plan other first second device w sends agree =
      let (own, at, is_anchor) = anchor_entry (alone plant plan) plan.frame.0 device w sends in
      let x = own.send_offset in
      let here : offset_at plan w.anchor ≡ Some x = offset_of plant plan.frame.0 plan w.anchor own at in
      let before : HasOffset plant (alone plant plan).blocks plan.frame.0 w.anchor x =
      λ e is. same_Some e.send_offset x (sym (offset_of plant plan.frame.0 plan w.anchor e is) ∙ here) in
      let after : HasOffset plant (alone plant other).blocks plan.frame.0 w.anchor x =
      λ e is. same_Some e.send_offset x (sym (offset_of plant plan.frame.0 other w.anchor e is) ∙ sym agree ∙ here) in
      let (v, now, shifted) = slides plant (alone plant plan).blocks (alone plant other).blocks plan.frame.0 w.anchor x x
      (ways_of plant plan.frame.0 (alone plant plan).blocks (alone plant other).blocks (twins_of plan other first second)) before after device w refl sends in
      subst (HasWindow (alone plant other) plan.frame.0 device) (sym (same_window x w v shifted)) now

  forwarded_alike : (plan other : FramePlan) →
      HasShape plant parents demand ratio phase plan → HasShape plant parents demand ratio phase other →
      (device : ℕ) (e g : Entry) → entry_of other device ≡ Some g → AgreeAbove plant plan other device e →
      (hop : ℕ) (w : SendWindow) → IsForwarded (alone plant plan) device plan.frame.0 e hop w → IsForwarded (alone plant other) device other.frame.0 g hop w
  forwarded_alike plan other first second device e g at agree hop w comes =
      let twins = twins_of plan other first second in
      let (its, stands, alike) = twins device e comes.stands in
      let same : its ≡ g = same_Some its g (sym (entry_from plant other.entries device plan.frame.0 its stands) ∙ at) in
      let now : IsForwarded (alone plant other) device plan.frame.0 its hop w = record {
        parent = comes.parent;
        port = comes.port;
        stands = stands;
        comes = way_parent plant (alone plant plan).blocks (alone plant other).blocks plan.frame.0
            (ways_of plant plan.frame.0 (alone plant plan).blocks (alone plant other).blocks twins) device e its comes.parent comes.port
            (way_of e its alike) comes.comes;
        hops = comes.hops;
        sends = window_alike plan other first second comes.parent w comes.sends (agree hop w comes);
      } in
      subst (λ (f : FrameId). IsForwarded (alone plant other) device f.0 g hop w) (same_frame plan other first second)
      (subst (λ x. IsForwarded (alone plant other) device plan.frame.0 x hop w) same now)

  pub ready_alike : (plan other : FramePlan) →
      HasShape plant parents demand ratio phase plan → HasShape plant parents demand ratio phase other →
      (device : ℕ) (e g : Entry) → entry_of plan device ≡ Some e → entry_of other device ≡ Some g → AgreeAbove plant plan other device e →
      (ready : ℕ) → IsReady plant plan device e ready → IsReady plant other device g ready
  ready_alike plan other first second device e g is at agree ready (inl (own, zero_is)) =
      let alike = same_entry device e g (first.each device e is) (second.each device g at) in
      inl (alike.rx_port ∙ own, zero_is)
  ready_alike plan other first second device e g is at agree ready (inr when) =
      inr (record {
        hop = when.hop;
        window = when.window;
        d = when.d;
        comes = forwarded_alike plan other first second device e g at agree when.hop when.window when.comes;
        held = when.held;
        is = when.is;
      })
