-- Two plans of a demand, in any ratios and phases: their windows differ by their anchors' offsets.
use Rattle.std.proofs.Common.{◌≡◌, ◌≢◌, ℕ, ◌<◌, inl, inr, Some, None, length, sym, ◌∙◌, ap, subst, refl}
use Rattle.std.specs.Prelude.{option_map}
use Rattle.std.proofs.lemmas.Bool.{cases_eq, cases_lt}
use Rattle.std.proofs.lemmas.List.{length-set, get_or-set_same, get_or-set_other, get_or_past}
use Rattle.std.proofs.lemmas.Option.{same_Some}
use Rattle.irt_base.specs.declared.blocks.Entry.{Entry}
use Rattle.irt_base.specs.declared.numbers.FrameId.{FrameId}
use Rattle.irt_base.specs.declared.plants.Demand.{Demand}
use Rattle.irt_base.specs.declared.plants.Plant.{Plant}
use Rattle.irt_route.specs.Trees.{Parents}
use Rattle.plan_rules.specs.Frames.{IsForwarded}
use Rattle.plan_rules.specs.SendWindow.{SendWindow, HasWindow}
use Rattle.plan_rules.specs.Way.{entry_at, IsAnchor}
use Rattle.fit_rules.specs.declared.frame_plan.FramePlan.{FramePlan}
use Rattle.fit_rules.specs.Shape.{alone, entry_of, moved, with_offset, IsOn, IsEntryOf, HasShape}
use Rattle.fit_rules.specs.Fit.{IsUsing}
use Rattle.fit_rules.specs.Moves.{SharesWay, IsShifted, offset_at}
use Rattle.fit_rules.proofs.Alike.{stands_alone}
use Rattle.fit_rules.proofs.Entries.{no_entry, entry_from}
use Rattle.fit_rules.proofs.Sliding.{HasWays, HasOffset, way_leaves, way_parent, slides}
use Rattle.fit_rules.proofs.Ways.{same_way}

module _ (plant : Plant) (parents : Parents) (demand : Demand) where
  module _ (r p : ℕ) (plan : FramePlan) (first : HasShape plant parents demand r p plan) (s q : ℕ) (other : FramePlan) (second : HasShape plant parents demand s q other) where
    one_frame : plan.frame ≡ other.frame
    one_frame = first.frame ∙ sym second.frame

    ways_between : HasWays plant plan.frame.0 (alone plant plan).blocks (alone plant other).blocks
    ways_between device e is =
        let own = first.each device e (entry_from plant plan.entries device plan.frame.0 e is) in
        let (g, at) = second.full device own.on in
        let stands = stands_alone plant parents demand s q other second device g at in (
          g,
          subst (λ (f : FrameId). entry_at (alone plant other) device f.0 ≡ Some g) (sym one_frame) stands,
          same_way plant parents demand r p s q device e g own (second.each device g at),
        )

    offset_there : (plan : FramePlan) (frame anchor x : ℕ) → offset_at plan anchor ≡ Some x → HasOffset plant (alone plant plan).blocks frame anchor x
    offset_there plan frame anchor x is e at =
        same_Some e.send_offset x (sym (ap (option_map (λ (y : Entry). y.send_offset)) (entry_from plant plan.entries anchor frame e at)) ∙ is)

    -- the window of the other plan is later by the difference of the offsets
    pub windows_shift : (device x y : ℕ) (w : SendWindow) → HasWindow (alone plant plan) plan.frame.0 device w → offset_at plan w.anchor ≡ Some x →
        offset_at other w.anchor ≡ Some y → (v : SendWindow) × HasWindow (alone plant other) other.frame.0 device v × IsShifted x y w v
    windows_shift device x y w sends here there =
        let (v, now, shifted) = slides plant (alone plant plan).blocks (alone plant other).blocks plan.frame.0 w.anchor x y ways_between
        (offset_there plan plan.frame.0 w.anchor x here) (offset_there other plan.frame.0 w.anchor y there) device w refl sends in
        (v, subst (λ (f : FrameId). HasWindow (alone plant other) f.0 device v) one_frame now, shifted)

    pub sendings_shift : (device port x y : ℕ) (e : Entry) (w : SendWindow) → IsUsing plant plan device port e w → offset_at plan w.anchor ≡ Some x →
        offset_at other w.anchor ≡ Some y → (g : Entry) × (v : SendWindow) × SharesWay e g × IsUsing plant other device port g v × IsShifted x y w v
    sendings_shift device port x y e w using here there =
        let (v, sends, shifted) = windows_shift device x y w using.sends here there in
        let (g, stands, way) = ways_between device e using.stands in (
          g,
          v,
          way,
          record {
            stands = subst (λ (f : FrameId). entry_at (alone plant other) device f.0 ≡ Some g) one_frame stands;
            leaves = way_leaves e g port way using.leaves;
            sends = sends;
          },
          shifted,
        )

    pub arrivals_shift : (device hop x y : ℕ) (e : Entry) (w : SendWindow) → IsForwarded (alone plant plan) device plan.frame.0 e hop w →
        offset_at plan w.anchor ≡ Some x → offset_at other w.anchor ≡ Some y →
        (g : Entry) × (v : SendWindow) × SharesWay e g × IsForwarded (alone plant other) device other.frame.0 g hop v × IsShifted x y w v
    arrivals_shift device hop x y e w comes here there =
        let (v, sends, shifted) = windows_shift comes.parent x y w comes.sends here there in
        let (g, stands, way) = ways_between device e comes.stands in
        let from = way_parent plant (alone plant plan).blocks (alone plant other).blocks plan.frame.0 ways_between device e g comes.parent comes.port way comes.comes in
        let now : IsForwarded (alone plant other) device plan.frame.0 g hop v = record {
          parent = comes.parent;
          port = comes.port;
          stands = stands;
          comes = from;
          hops = comes.hops;
          sends = subst (λ (f : FrameId). HasWindow (alone plant other) f.0 comes.parent v) (sym one_frame) sends;
        } in
        (g, v, way, subst (λ (f : FrameId). IsForwarded (alone plant other) device f.0 g hop v) one_frame now, shifted)

  -- an entry with another offset
  entry_moved : (r p device x : ℕ) (e : Entry) → IsEntryOf plant parents demand r p device e → IsEntryOf plant parents demand r p device (with_offset x e)
  entry_moved r p device x e is = record {
    on = is.on;
    frame = is.frame;
    length = is.length;
    ratio_is = is.ratio_is;
    phase_is = is.phase_is;
    provided = is.provided;
    received = λ from at. let got = is.received from at in record { from_one = got.from_one; leads = got.leads };
    sent = is.sent;
    kept = is.kept;
    small = is.small;
  }

  module _ (r p : ℕ) (plan : FramePlan) (shape : HasShape plant parents demand r p plan) (anchor x : ℕ) (e : Entry) (there : entry_of plan anchor ≡ Some e)
      (starts : IsAnchor (alone plant plan) anchor e) where
    within : anchor < length plan.entries
    within = elim (cases_lt anchor (length plan.entries)) [
      | inl less ↦ less
      | inr past ↦ no_entry e (sym (get_or_past plan.entries anchor None past) ∙ there)
    ]

    pub moved_here : entry_of (moved plan anchor x) anchor ≡ Some (with_offset x e)
    moved_here = get_or-set_same plan.entries anchor (option_map (with_offset x) (entry_of plan anchor)) None within ∙ ap (option_map (with_offset x)) there

    moved_else : (device : ℕ) → device ≢ anchor → entry_of (moved plan anchor x) device ≡ entry_of plan device
    moved_else device other = get_or-set_other plan.entries anchor device (option_map (with_offset x) (entry_of plan anchor)) None other

    still_starts : IsAnchor (alone plant plan) anchor e → IsAnchor (alone plant (moved plan anchor x)) anchor (with_offset x e)
    still_starts (inl own) = inl own
    still_starts (inr (absolute, leaves)) = inr (absolute, (leaves.0, record { from_one = leaves.1.from_one; bit = leaves.1.bit }))

    each_moved : (device : ℕ) (g : Entry) → entry_of (moved plan anchor x) device ≡ Some g → IsEntryOf plant parents demand r p device g
    each_moved device g is = elim (cases_eq device anchor) [
      | inl same ↦
          let at = ap (entry_of (moved plan anchor x)) (sym same) ∙ is in
          let one : with_offset x e ≡ g = same_Some (with_offset x e) g (sym moved_here ∙ at) in
          subst (λ d. IsEntryOf plant parents demand r p d g) (sym same)
          (subst (IsEntryOf plant parents demand r p anchor) one (entry_moved r p anchor x e (shape.each anchor e there)))
      | inr other ↦ shape.each device g (sym (moved_else device other) ∙ is)
    ]

    full_moved : (device : ℕ) → IsOn demand parents device → (g : Entry) × (entry_of (moved plan anchor x) device ≡ Some g)
    full_moved device on = elim (cases_eq device anchor) [
      | inl same ↦ (with_offset x e, ap (entry_of (moved plan anchor x)) same ∙ moved_here)
      | inr other ↦ let (g, at) = shape.full device on in (g, moved_else device other ∙ at)
    ]

    idle_moved : (device : ℕ) (g : Entry) → entry_of (moved plan anchor x) device ≡ Some g → ¬ IsAnchor (alone plant (moved plan anchor x)) device g → g.send_offset ≡ 0
    idle_moved device g is idle = elim (cases_eq device anchor) [
      | inl same ↦
          let at = ap (entry_of (moved plan anchor x)) (sym same) ∙ is in
          let one : with_offset x e ≡ g = same_Some (with_offset x e) g (sym moved_here ∙ at) in
          absurd (idle (subst (λ d. IsAnchor (alone plant (moved plan anchor x)) d g) (sym same)
          (subst (IsAnchor (alone plant (moved plan anchor x)) anchor) one (still_starts starts))))
      | inr other ↦ shape.idle device g (sym (moved_else device other) ∙ is) idle
    ]

    -- an anchor's offset may be any
    pub shape_moved : HasShape plant parents demand r p (moved plan anchor x)
    shape_moved = record {
      frame = shape.frame;
      count = length-set plan.entries anchor (option_map (with_offset x) (entry_of plan anchor)) ∙ shape.count;
      each = each_moved;
      full = full_moved;
      idle = idle_moved;
    }
