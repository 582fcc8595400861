-- The windows that hang on an anchor move with its offset.
use Rattle.std.proofs.Common.{◌≡◌, ℕ, zero, suc, ◌+◌, ◌<◌, ◌≤◌, inl, inr, Bool, true, false, cond, List, [], ◌∷◌, Option, Some, None, sym, ◌∙◌, ap, subst, arith, refl}
use Rattle.std.specs.Prelude.{slice_index_or, slice_set, option_map, IsBitSet, Contains}
use Rattle.std.proofs.lemmas.Option.{same_Some}
use Rattle.irt_base.specs.Cycle.{SharesCycle, wire_time}
use Rattle.irt_base.specs.Wiring.{peer_of}
use Rattle.irt_base.specs.declared.blocks.Entry.{Entry}
use Rattle.irt_base.specs.declared.blocks.FrameBlock.{FrameBlock}
use Rattle.irt_base.specs.declared.plants.Plant.{Plant}
use Rattle.plan_rules.specs.Way.{entry_at, Leaves, IsAnchor, IsParent}
use Rattle.plan_rules.specs.SendWindow.{SendWindow, HasWindow, at_anchor, behind, slack_time}
use Rattle.fit_rules.specs.declared.frame_plan.FramePlan.{FramePlan}
use Rattle.fit_rules.specs.Shape.{alone, moved, with_offset}
use Rattle.fit_rules.specs.Fit.{IsUsing, IsClearAt, end_time}
use Rattle.fit_rules.specs.Moves.{IsAlike, IsShifted, SharesWay, AreTooClose}
use Rattle.fit_rules.proofs.Entries.{setup, entry_in, no_entry}

pub flipped : (e g : Entry) → IsAlike e g → IsAlike g e
flipped e g is = record {
  frame = sym is.frame;
  length = sym is.length;
  ratio = sym is.ratio;
  phase = sym is.phase;
  rx_port = sym is.rx_port;
  tx = sym is.tx;
}

pub way_of : (e g : Entry) → IsAlike e g → SharesWay e g
way_of e g is = record { length = is.length; rx_port = is.rx_port; tx = is.tx }

pub way_back : (e g : Entry) → SharesWay e g → SharesWay g e
way_back e g is = record { length = sym is.length; rx_port = sym is.rx_port; tx = sym is.tx }

pub way_leaves : (e g : Entry) (port : ℕ) → SharesWay e g → Leaves e port → Leaves g port
way_leaves e g port is leaves = record { from_one = leaves.from_one; bit = subst (λ t. IsBitSet t port) (sym is.tx) leaves.bit }

pub way_anchor : (plant : Plant) (xs ys : List FrameBlock) (device : ℕ) (e g : Entry) → SharesWay e g →
    IsAnchor (setup plant xs) device e → IsAnchor (setup plant ys) device g
way_anchor plant xs ys device e g is (inl own) = inl (is.rx_port ∙ own)
way_anchor plant xs ys device e g is (inr by) = inr (by.0, (by.1.0, way_leaves e g by.1.0 is by.1.1))

-- an alike entry stands there, or one of the same way
abbrev pub Twin : Option Entry → Entry → Type 0
Twin other e = (g : Entry) × (other ≡ Some g) × IsAlike e g

abbrev pub WayTwin : Option Entry → Entry → Type 0
WayTwin other e = (g : Entry) × (other ≡ Some g) × SharesWay e g

-- each entry of a frame in one setup has its like in the other
abbrev pub HasTwins : Plant → ℕ → List FrameBlock → List FrameBlock → Type 0
HasTwins plant frame xs ys = (d : ℕ) (e : Entry) → entry_at (setup plant xs) d frame ≡ Some e → Twin (entry_at (setup plant ys) d frame) e

abbrev pub HasWays : Plant → ℕ → List FrameBlock → List FrameBlock → Type 0
HasWays plant frame xs ys = (d : ℕ) (e : Entry) → entry_at (setup plant xs) d frame ≡ Some e → WayTwin (entry_at (setup plant ys) d frame) e

pub ways_of : (plant : Plant) (frame : ℕ) (xs ys : List FrameBlock) → HasTwins plant frame xs ys → HasWays plant frame xs ys
ways_of plant frame xs ys twins d e is = let (g, at, alike) = twins d e is in (g, at, way_of e g alike)

-- the anchor's offset
abbrev pub HasOffset : Plant → List FrameBlock → ℕ → ℕ → ℕ → Type 0
HasOffset plant blocks frame anchor x = (e : Entry) → entry_at (setup plant blocks) anchor frame ≡ Some e → e.send_offset ≡ x

pub way_parent : (plant : Plant) (xs ys : List FrameBlock) (frame : ℕ) → HasWays plant frame xs ys → (device : ℕ) (e g : Entry) (parent port : ℕ) →
    SharesWay e g → IsParent (setup plant xs) frame device e parent port → IsParent (setup plant ys) frame device g parent port
way_parent plant xs ys frame ways device e g parent port is comes = record {
  received = subst (λ n. 1 ≤ n) (sym is.rx_port) comes.received;
  sent =
      let (from, at, same) = ways parent comes.sent.0 comes.sent.1 in
      (from, at, way_leaves comes.sent.0 from port same comes.sent.2);
  leads = subst (λ n. peer_of plant parent port ≡ Some (record { 0 = device }, record { 0 = n })) (sym is.rx_port) comes.leads;
}

abbrev pub ShiftedWindow : Plant → List FrameBlock → ℕ → ℕ → ℕ → ℕ → SendWindow → Type 0
ShiftedWindow plant blocks frame device x y w = (v : SendWindow) × HasWindow (setup plant blocks) frame device v × IsShifted x y w v

pub slides : (plant : Plant) (xs ys : List FrameBlock) (frame anchor x y : ℕ) → HasWays plant frame xs ys →
    HasOffset plant xs frame anchor x → HasOffset plant ys frame anchor y → (device : ℕ) (w : SendWindow) → w.anchor ≡ anchor →
    HasWindow (setup plant xs) frame device w → ShiftedWindow plant ys frame device x y w
slides plant xs ys frame anchor x y ways first second _ _ same (at_anchor d e is own) =
    let (g, at, way) = ways d e is in
    let here : e.send_offset ≡ x = first e (subst (λ a. entry_at (setup plant xs) a frame ≡ Some e) same is) in
    let there : g.send_offset ≡ y = second g (subst (λ a. entry_at (setup plant ys) a frame ≡ Some g) same at) in (
      record { lo = g.send_offset; hi = g.send_offset; anchor = d },
      at_anchor d g at (way_anchor plant xs ys d e g way own),
      record { lo = omega arith; hi = omega arith; anchor = refl },
    )
slides plant xs ys frame anchor x y ways first second _ _ same (behind d e parent port hop w dev is other comes sends hops held) =
    let (g, at, way) = ways d e is in
    let (v, before, shifted) = slides plant xs ys frame anchor x y ways first second parent w same sends in
    let lo : v.lo + x ≡ w.lo + y = shifted.lo in
    let hi : v.hi + x ≡ w.hi + y = shifted.hi in (
      record { lo = v.lo + (hop + dev.bmin); hi = v.hi + (hop + dev.bmax); anchor = v.anchor },
      behind d g parent port hop v dev at (λ own. other (way_anchor plant ys xs d g e (way_back e g way) own))
          (way_parent plant xs ys frame ways d e g parent port way comes) before hops held,
      record { lo = omega arith; hi = omega arith; anchor = shifted.anchor },
    )

-- the entries with an offset moved
abbrev moved_entries : List (Option Entry) → ℕ → ℕ → List (Option Entry)
moved_entries entries device x = slice_set entries device (option_map (with_offset x) (slice_index_or entries device None))

moved_alike : (r e : Entry) (x y : ℕ) → Some (with_offset x r) ≡ Some e → IsAlike e (with_offset y r)
moved_alike r e x y is =
    let same = same_Some (with_offset x r) e is in record {
      frame = ap (λ (z : Entry). z.frame) same;
      length = ap (λ (z : Entry). z.data_length) same;
      ratio = ap (λ (z : Entry). z.ratio) same;
      phase = ap (λ (z : Entry). z.phase) same;
      rx_port = ap (λ (z : Entry). z.rx_port) same;
      tx = ap (λ (z : Entry). z.tx) same;
    }

pick_twin : (b : Bool) (r e : Entry) (x y : ℕ) → cond b (Some (with_offset x r)) None ≡ Some e → Twin (cond b (Some (with_offset y r)) None) e
pick_twin true r e x y is = (with_offset y r, refl, moved_alike r e x y is)
pick_twin false r e x y is = no_entry e is

pick_offset : (b : Bool) (r e : Entry) (x : ℕ) → cond b (Some (with_offset x r)) None ≡ Some e → e.send_offset ≡ x
pick_offset true r e x is = sym (ap (λ (z : Entry). z.send_offset) (same_Some (with_offset x r) e is))
pick_offset false r e x is = no_entry e is

pub alike_self : (e : Entry) → IsAlike e e
alike_self e = record { frame = refl; length = refl; ratio = refl; phase = refl; rx_port = refl; tx = refl }

pub moved_twin : (plant : Plant) (frame : ℕ) (entries : List (Option Entry)) (anchor x y d : ℕ) (e : Entry) →
    entry_in plant (moved_entries entries anchor x) d frame ≡ Some e → Twin (entry_in plant (moved_entries entries anchor y) d frame) e
moved_twin plant frame [] anchor x y d e is = no_entry e is
moved_twin plant frame (None ∷ rest) zero x y zero e is = no_entry e is
moved_twin plant frame (Some r ∷ rest) zero x y zero e is = pick_twin _ r e x y is
moved_twin plant frame (row ∷ rest) zero x y (suc d) e is = (e, is, alike_self e)
moved_twin plant frame (row ∷ rest) (suc anchor) x y zero e is = (e, is, alike_self e)
moved_twin plant frame (row ∷ rest) (suc anchor) x y (suc d) e is = moved_twin plant frame rest anchor x y d e is

pub moved_offset : (plant : Plant) (frame : ℕ) (entries : List (Option Entry)) (anchor x : ℕ) (e : Entry) →
    entry_in plant (moved_entries entries anchor x) anchor frame ≡ Some e → e.send_offset ≡ x
moved_offset plant frame [] anchor x e is = no_entry e is
moved_offset plant frame (None ∷ rest) zero x e is = no_entry e is
moved_offset plant frame (Some r ∷ rest) zero x e is = pick_offset _ r e x is
moved_offset plant frame (row ∷ rest) (suc anchor) x e is = moved_offset plant frame rest anchor x e is

abbrev pub Moved : Plant → FramePlan → ℕ → ℕ → ℕ → ℕ → ℕ → Entry → SendWindow → Type 0
Moved plant plan anchor x y device port e w =
    (g : Entry) × (v : SendWindow) × IsAlike e g × IsUsing plant (moved plan anchor y) device port g v × IsShifted x y w v

pub moves : (plant : Plant) (plan : FramePlan) (anchor x y device port : ℕ) (e : Entry) (w : SendWindow) →
    IsUsing plant (moved plan anchor x) device port e w → w.anchor ≡ anchor → Moved plant plan anchor x y device port e w
moves plant plan anchor x y device port e w sending same =
    let twins = moved_twin plant plan.frame.0 plan.entries anchor x y in
    let (g, at, alike) = twins device e sending.stands in
    let ways = ways_of plant plan.frame.0 (alone plant (moved plan anchor x)).blocks (alone plant (moved plan anchor y)).blocks twins in
    let (v, sends, shifted) = slides plant (alone plant (moved plan anchor x)).blocks (alone plant (moved plan anchor y)).blocks plan.frame.0 anchor x y ways
    (moved_offset plant plan.frame.0 plan.entries anchor x) (moved_offset plant plan.frame.0 plan.entries anchor y) device w same sending.sends in
    (g, v, alike, record { stands = at; leaves = way_leaves e g port (way_of e g alike) sending.leaves; sends = sends }, shifted)

pub blocked : (plant : Plant) (placed : List FramePlan) (plan : FramePlan) (anchor x y device port : ℕ) (e : Entry) (w : SendWindow) →
    IsUsing plant (moved plan anchor x) device port e w → w.anchor ≡ anchor →
    (other : FramePlan) (f : Entry) (v : SendWindow) → Contains placed other → IsUsing plant other device port f v →
    SharesCycle e.ratio e.phase f.ratio f.phase → AreTooClose plant e w f v → x ≤ y →
    w.lo + y < x + v.hi + wire_time f.data_length + slack_time plant.window v.anchor w.anchor →
    ¬ IsClearAt plant placed plan anchor y
blocked plant placed plan anchor x y device port e w sending same other f v among using shared close up before clear =
    let (g, u, alike, now, shifted) = moves plant plan anchor x y device port e w sending same in
    let shares : SharesCycle g.ratio g.phase f.ratio f.phase =
    subst (λ r. SharesCycle r g.phase f.ratio f.phase) (sym alike.ratio) (subst (λ p. SharesCycle e.ratio p f.ratio f.phase) (sym alike.phase) shared) in
    let room = clear device port g u now (shifted.anchor ∙ same) in
    let lo : u.lo + x ≡ w.lo + y = shifted.lo in
    let hi : u.hi + x ≡ w.hi + y = shifted.hi in
    let wire : wire_time g.data_length ≡ wire_time e.data_length = ap wire_time alike.length in
    let first : slack_time plant.window u.anchor v.anchor ≡ slack_time plant.window w.anchor v.anchor = ap (λ a. slack_time plant.window a v.anchor) shifted.anchor in
    let second : slack_time plant.window v.anchor u.anchor ≡ slack_time plant.window v.anchor w.anchor = ap (slack_time plant.window v.anchor) shifted.anchor in
    elim (room.apart other f v among using shares) [
      | inl earlier ↦ too_late v.lo w.hi u.hi x y (wire_time e.data_length) _ _ _ close.not_before hi up wire first earlier
      | inr later ↦ too_early w.lo u.lo x y v.hi (wire_time f.data_length) _ _ lo before second later
    ]
  where
    too_late : (lo hi now x y length wire slack here : ℕ) → lo < hi + length + slack → now + x ≡ hi + y → x ≤ y → wire ≡ length → here ≡ slack → now + wire + here ≤ lo → ⊥
    too_late lo hi now x y length wire slack here close shift up same also earlier = omega arith

    too_early : (lo now x y end wire slack here : ℕ) → now + x ≡ lo + y → lo + y < x + end + wire + slack → here ≡ slack → end + wire + here ≤ now → ⊥
    too_early lo now x y end wire slack here shift before also later = omega arith

pub late : (plant : Plant) (placed : List FramePlan) (plan : FramePlan) (anchor x y device port : ℕ) (e : Entry) (w : SendWindow) →
    IsUsing plant (moved plan anchor x) device port e w → w.anchor ≡ anchor → plant.red_max < end_time plant device e w → x ≤ y →
    ¬ IsClearAt plant placed plan anchor y
late plant placed plan anchor x y device port e w sending same past up clear =
    let (g, u, alike, now, shifted) = moves plant plan anchor x y device port e w sending same in
    let room = clear device port g u now (shifted.anchor ∙ same) in
    too_late plant.red_max w.hi u.hi x y (wire_time e.data_length) _ _ _ past shifted.hi up (ap wire_time alike.length)
    (ap (slack_time plant.window device) shifted.anchor) room.red
  where
    too_late : (limit hi now x y length wire slack here : ℕ) → limit < hi + length + slack → now + x ≡ hi + y → x ≤ y → wire ≡ length → here ≡ slack → now + wire + here ≤ limit → ⊥
    too_late limit hi now x y length wire slack here past shift up same also ends = omega arith
