-- What is clear and when an anchor is ready, in times after the offsets of anchors.
use Rattle.std.proofs.Common.{◌≡◌, ℕ, ◌+◌, ◌≤◌, inl, inr, List, Some, sym, ◌∙◌, ap, subst, arith, refl}
use Rattle.std.specs.Prelude.{◌↔◌, option_map}
use Rattle.std.proofs.lemmas.Option.{same_Some}
use Rattle.irt_base.specs.Cycle.{SharesCycle, wire_time, guard_time}
use Rattle.irt_base.specs.declared.blocks.Entry.{Entry}
use Rattle.irt_base.specs.declared.plants.Demand.{Demand}
use Rattle.irt_base.specs.declared.plants.Plant.{Plant}
use Rattle.irt_route.specs.Trees.{Parents}
use Rattle.plan_rules.specs.Frames.{IsForwarded}
use Rattle.plan_rules.specs.SendWindow.{SendWindow, slack_time}
use Rattle.plan_rules.specs.Way.{IsAnchor}
use Rattle.fit_rules.specs.declared.frame_plan.FramePlan.{FramePlan}
use Rattle.fit_rules.specs.Delays.{IsAtZero, AreRoomyAt, IsReadyAfter}
use Rattle.fit_rules.specs.Shape.{alone, entry_of, moved, HasShape}
use Rattle.fit_rules.specs.Fit.{IsUsing, IsClearAt, IsReady}
use Rattle.fit_rules.specs.Moves.{offset_at}
use Rattle.fit_rules.proofs.Alike.{anchor_entry}
use Rattle.fit_rules.proofs.Entries.{entry_from}
use Rattle.fit_rules.proofs.Shifts.{moved_here, shape_moved, sendings_shift, arrivals_shift}

offset_is : (plan : FramePlan) (device : ℕ) (e : Entry) → entry_of plan device ≡ Some e → offset_at plan device ≡ Some e.send_offset
offset_is plan device e is = ap (option_map (λ (x : Entry). x.send_offset)) is

ends_as : (hi now wire same slack also limit : ℕ) → hi ≡ now → wire ≡ same → slack ≡ also → hi + wire + slack ≤ limit → now + same + also ≤ limit
ends_as hi now wire same slack also limit first second third ends = omega arith

begins_as : (hi wire slack also lo now : ℕ) → slack ≡ also → lo ≡ now → hi + wire + slack ≤ lo → hi + wire + also ≤ now
begins_as hi wire slack also lo now first second begins = omega arith

module _ (plant : Plant) (parents : Parents) (demand : Demand) (r p : ℕ) (base : FramePlan) (zeroth : HasShape plant parents demand r p base) (zeros : IsAtZero base) where
  -- a window of the base hangs on an offset 0
  zero_at : (device port : ℕ) (e : Entry) (w : SendWindow) → IsUsing plant base device port e w → offset_at base w.anchor ≡ Some 0
  zero_at device port e w using =
      let (own, at, starts) = anchor_entry (alone plant base) base.frame.0 device w using.sends in
      let there = entry_from plant base.entries w.anchor base.frame.0 own at in
      offset_is base w.anchor own there ∙ ap Some (zeros w.anchor own there)

  module _ (ratio phase : ℕ) (plan : FramePlan) (shape : HasShape plant parents demand ratio phase plan) (anchor x : ℕ) (own : Entry)
      (there : entry_of plan anchor ≡ Some own) (starts : IsAnchor (alone plant plan) anchor own) (placed : List FramePlan) where
    now : HasShape plant parents demand ratio phase (moved plan anchor x)
    now = shape_moved plant parents demand ratio phase plan shape anchor x own there starts

    offset_now : offset_at (moved plan anchor x) anchor ≡ Some x
    offset_now = ap (option_map (λ (e : Entry). e.send_offset)) (moved_here plant parents demand ratio phase plan shape anchor x own there starts)

    roomy : IsClearAt plant placed plan anchor x → AreRoomyAt plant placed demand ratio phase base anchor x
    roomy clear device port least greatest delayed =
        let (g, v, way, using, shifted) = sendings_shift plant parents demand r p base zeroth ratio phase (moved plan anchor x) now device port 0 x delayed.e delayed.w
        delayed.sends (zero_at device port delayed.e delayed.w delayed.sends) (ap (offset_at (moved plan anchor x)) delayed.hangs ∙ offset_now) in
        let hangs = shifted.anchor ∙ delayed.hangs in
        let room = clear device port g v using hangs in
        let entry = now.each device g (entry_from plant (moved plan anchor x).entries device plan.frame.0 g using.stands) in
        let lo : v.lo ≡ x + least = omega (arith, shifted.lo, delayed.lo) in
        let hi : v.hi ≡ x + greatest = omega (arith, shifted.hi, delayed.hi) in
        let wire : wire_time g.data_length ≡ wire_time demand.length = ap wire_time entry.length in record {
          red = ends_as v.hi (x + greatest) _ _ _ _ plant.red_max hi wire (ap (slack_time plant.window device) hangs) room.red;
          apart = λ other f u among uses shared.
              let shares : SharesCycle g.ratio g.phase f.ratio f.phase =
              subst (λ n. SharesCycle n g.phase f.ratio f.phase) (sym entry.ratio_is) (subst (λ n. SharesCycle ratio n f.ratio f.phase) (sym entry.phase_is) shared) in
              elim (room.apart other f u among uses shares) [
                | inl before ↦ inl (ends_as v.hi (x + greatest) _ _ _ _ u.lo hi wire (ap (λ a. slack_time plant.window a u.anchor) hangs) before)
                | inr after ↦ inr (begins_as u.hi (wire_time f.data_length) _ _ v.lo (x + least) (ap (slack_time plant.window u.anchor) hangs) lo after)
              ];
        }

    clear_of : AreRoomyAt plant placed demand ratio phase base anchor x → IsClearAt plant placed plan anchor x
    clear_of rooms device port g v using hangs =
        let later : offset_at (moved plan anchor x) v.anchor ≡ Some x = ap (offset_at (moved plan anchor x)) hangs ∙ offset_now in
        let (bottom, at, starts_there) = anchor_entry (alone plant (moved plan anchor x)) plan.frame.0 device v using.sends in
        let on = (now.each v.anchor bottom (entry_from plant (moved plan anchor x).entries v.anchor plan.frame.0 bottom at)).on in
        let (low, is) = zeroth.full v.anchor on in
        let zero_there : offset_at base v.anchor ≡ Some 0 = offset_is base v.anchor low is ∙ ap Some (zeros v.anchor low is) in
        let (e, w, way, sends, shifted) = sendings_shift plant parents demand ratio phase (moved plan anchor x) now r p base zeroth device port x 0 g v using later zero_there in
        let same = shifted.anchor ∙ hangs in
        let room = rooms device port w.lo w.hi (record { e = e; w = w; sends = sends; hangs = same; lo = refl; hi = refl }) in
        let entry = now.each device g (entry_from plant (moved plan anchor x).entries device plan.frame.0 g using.stands) in
        let lo : x + w.lo ≡ v.lo = omega (arith, shifted.lo) in
        let hi : x + w.hi ≡ v.hi = omega (arith, shifted.hi) in
        let wire : wire_time demand.length ≡ wire_time g.data_length = ap wire_time (sym entry.length) in
        let home = sym hangs in record {
          red = ends_as (x + w.hi) v.hi _ _ _ _ plant.red_max hi wire (ap (slack_time plant.window device) home) room.red;
          apart = λ other f u among uses shared.
              let shares : SharesCycle ratio phase f.ratio f.phase =
              subst (λ n. SharesCycle n phase f.ratio f.phase) entry.ratio_is (subst (λ n. SharesCycle g.ratio n f.ratio f.phase) entry.phase_is shared) in
              elim (room.apart other f u among uses shares) [
                | inl before ↦ inl (ends_as (x + w.hi) v.hi _ _ _ _ u.lo hi wire (ap (λ a. slack_time plant.window a u.anchor) home) before)
                | inr after ↦ inr (begins_as u.hi (wire_time f.data_length) _ _ (x + w.lo) v.lo (ap (slack_time plant.window u.anchor) home) lo after)
              ];
        }

    pub clear_in_numbers : IsClearAt plant placed plan anchor x ↔ AreRoomyAt plant placed demand ratio phase base anchor x
    clear_in_numbers = (roomy, clear_of)

  -- an anchor is ready so long after the offset of the anchor before it
  pub ready_in_numbers : (ratio phase : ℕ) (plan : FramePlan) → HasShape plant parents demand ratio phase plan → (device anchor gap y : ℕ) (own : Entry) →
      entry_of plan device ≡ Some own → IsReadyAfter plant base device anchor gap → offset_at plan anchor ≡ Some y → IsReady plant plan device own (y + gap)
  ready_in_numbers ratio phase plan shape device anchor gap y own is after offset =
      let from = after.comes.comes.sent.0 in
      let zero_there = zero_at after.comes.parent after.comes.port from after.w
      (record { stands = after.comes.comes.sent.1; leaves = after.comes.comes.sent.2; sends = after.comes.sends }) in
      let (g, v, way, comes, shifted) = arrivals_shift plant parents demand r p base zeroth ratio phase plan shape device after.hop 0 y after.e after.w after.comes zero_there
      (ap (offset_at plan) after.hangs ∙ offset) in
      let same : g ≡ own = same_Some g own (sym (entry_from plant plan.entries device plan.frame.0 g comes.stands) ∙ is) in
      let hi : v.hi + 0 ≡ after.w.hi + y = shifted.hi in
      inr (record {
        hop = after.hop;
        window = v;
        d = after.d;
        comes = subst (λ e. IsForwarded (alone plant plan) device plan.frame.0 e after.hop v) same comes;
        held = after.held;
        is = summed y gap after.w.hi v.hi after.hop after.d.bmax (guard_time plant.window) after.is hi;
      })
    where
      summed : (y gap hi now hop bridge guard : ℕ) → gap ≡ hi + hop + bridge + guard → now + 0 ≡ hi + y → y + gap ≡ now + hop + bridge + guard
      summed y gap hi now hop bridge guard is shifted = omega arith
