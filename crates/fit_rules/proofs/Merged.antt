-- The blocks hold the placed frames: each frame has in them what it has alone.
use Rattle.std.proofs.Common.{◌≡◌, ℕ, ◌<◌, ◌≤◌, inl, inr, true, List, Option, Some, None, length, slice_get, map, find, option_map, option_and_then, sym, ◌∙◌, ap, subst, arith, refl}
use Rattle.std.specs.Prelude.{◌==◌, take, Contains, slice_index_or}
use Rattle.std.proofs.lemmas.Bool.{cases_order, eq-eqb, eqb-true, cases_lt}
use Rattle.std.proofs.lemmas.List.{get_or_past}
use Rattle.std.proofs.lemmas.Option.{same_Some, slice_get_within, get_or_from_slice_get, slice_get-map}
use Rattle.irt_base.specs.Valid.{IsWithin}
use Rattle.irt_base.specs.declared.blocks.Bundle.{Bundle}
use Rattle.irt_base.specs.declared.blocks.Entry.{Entry}
use Rattle.irt_base.specs.declared.blocks.FrameBlock.{FrameBlock}
use Rattle.irt_base.specs.declared.numbers.FrameId.{FrameId}
use Rattle.irt_base.specs.declared.plants.Demand.{Demand}
use Rattle.irt_base.specs.declared.plants.Device.{Device}
use Rattle.irt_base.specs.declared.plants.Plant.{Plant}
use Rattle.irt_route.specs.Routes.{RouteTables, IsRoutesOf}
use Rattle.plant_rules.specs.Meets.{MeetsRules}
use Rattle.plan_rules.specs.Frames.{IsSending, IsForwarded}
use Rattle.plan_rules.specs.Plan.{setup_of}
use Rattle.plan_rules.specs.SendWindow.{SendWindow, HasWindow, at_anchor, behind}
use Rattle.plan_rules.specs.Way.{entry_at}
use Rattle.fit_rules.specs.declared.frame_plan.FramePlan.{FramePlan}
use Rattle.fit_rules.specs.Shape.{alone, entry_of, IsRatioFor, HasShape}
use Rattle.fit_rules.specs.Fit.{IsUsing}
use Rattle.fit_rules.specs.Order.{HasFarthest, IsEarlier, IsDemandAt, IsOrder, parents_of, IsPlacedAt, IsFit}
use Rattle.fit_rules.specs.Blocks.{IsBundleOf, AreBundlesOf}
use Rattle.fit_rules.proofs.Alike.{entry_frame, stands_alone}
use Rattle.fit_rules.proofs.Entries.{setup, no_entry, entry_from}
use Rattle.fit_rules.proofs.Finding.{bound, found_at, find_one, same_demand}
use Rattle.fit_rules.proofs.Known.{Known}
use Rattle.fit_rules.proofs.Links.{mapped}
use Rattle.fit_rules.proofs.Lists.{contains_at, place_of, some_at}

-- first fit's bundles, with all that they come from
pub record IsWhole (plant : Plant) (routes : RouteTables) (plans : List FramePlan) (bundles : List Bundle) : Type 0 where
  pub known : Known
  pub are : IsRoutesOf plant routes
  pub fit : IsFit plant routes plans
  pub blocks : AreBundlesOf plant plans bundles

-- a placed frame, by its demand
pub record IsShaped (plant : Plant) (routes : RouteTables) (plan : FramePlan) : Type 0 where
  pub index : ℕ
  pub demand : Demand
  pub ratio : ℕ
  pub phase : ℕ
  pub there : IsDemandAt plant index demand
  pub rate : IsRatioFor plant demand ratio
  pub among : IsWithin 1 ratio phase
  pub shape : HasShape plant (parents_of routes index) demand ratio phase plan

pub shaped_at : (plant : Plant) (routes : RouteTables) (order : List ℕ) (placed : List FramePlan) (n : ℕ) (plan : FramePlan) →
    IsPlacedAt plant routes order placed n plan → IsShaped plant routes plan
shaped_at plant routes order placed n plan at =
    let first = at.fit in
    let is = first.is in
    record { index = at.index; demand = at.demand; ratio = is.ratio; phase = first.phase; there = at.there; rate = is.rate; among = is.among; shape = is.shape }

pub one_farthest : (plant : Plant) (demand : Demand) (n m : ℕ) → HasFarthest plant demand n → HasFarthest plant demand m → n ≤ m
one_farthest plant demand n m a b = b.bound a.some.0 n a.some.1 a.some.2

-- no demand is earlier than itself
pub not_earlier : (plant : Plant) (d : Demand) → IsEarlier plant d d → ⊥
not_earlier plant d earlier =
    let up = one_farthest plant d earlier.hops earlier.other_hops earlier.farthest earlier.other_farthest in
    elim earlier.before [
      | inl less ↦ omega arith
      | inr tie ↦ elim tie.1 [ inl longer ↦ omega arith | inr also ↦ omega (arith, also.1) ]
    ]

order_sorted : (plant : Plant) (order : List ℕ) → IsOrder plant order → (n m i j : ℕ) (d e : Demand) → n < m → slice_get order n ≡ Some i → slice_get order m ≡ Some j →
    IsDemandAt plant i d → IsDemandAt plant j e → IsEarlier plant d e
order_sorted plant order is n m i j d e less first second at there =
    is.sorted n m 0 less (slice_get_within order m j second) d e (ap (slice_get plant.demands) (get_or_from_slice_get order n i 0 first) ∙ at)
    (ap (slice_get plant.demands) (get_or_from_slice_get order m j 0 second) ∙ there)

apart_places : (plant : Plant) (routes : RouteTables) → MeetsRules plant → (plans : List FramePlan) → (fit : IsFit plant routes plans) → (n m : ℕ) (p q : FramePlan) → n < m →
    slice_get plans n ≡ Some p → slice_get plans m ≡ Some q → p.frame.0 ≡ q.frame.0 → ⊥
apart_places plant routes rules plans fit n m p q less at there same =
    let first = fit.placed n p at in
    let second = fit.placed m q there in
    let named : p.frame.0 ≡ first.demand.frame.0 = ap (λ (f : FrameId). f.0) first.fit.is.shape.frame in
    let called : q.frame.0 ≡ second.demand.frame.0 = ap (λ (f : FrameId). f.0) second.fit.is.shape.frame in
    let demands = same_demand plant rules first.index second.index first.demand second.demand first.there second.there (sym named ∙ same ∙ called) in
    let earlier = order_sorted plant fit.order fit.is_order n m first.index second.index first.demand second.demand less first.next second.next first.there second.there in
    not_earlier plant first.demand (subst (IsEarlier plant first.demand) (sym demands) earlier)

-- placed frames differ
pub same_plan : (plant : Plant) (routes : RouteTables) → MeetsRules plant → (plans : List FramePlan) → IsFit plant routes plans → (p q : FramePlan) →
    Contains plans p → Contains plans q → p.frame.0 ≡ q.frame.0 → p ≡ q
same_plan plant routes rules plans fit p q has also same =
    let (n, at) = place_of plans p has in
    let (m, there) = place_of plans q also in
    elim (cases_order n m) [
      | inl place ↦ same_Some p q (sym at ∙ ap (slice_get plans) place ∙ there)
      | inr (inl less) ↦ absurd (apart_places plant routes rules plans fit n m p q less at there same)
      | inr (inr more) ↦ absurd (apart_places plant routes rules plans fit m n q p more there at (sym same))
    ]

-- an entry of the blocks is one of a placed frame
pub record IsPlacedEntry (plans : List FramePlan) (device frame : ℕ) (e : Entry) : Type 0 where
  pub plan : FramePlan
  pub placed : Contains plans plan
  pub there : entry_of plan device ≡ Some e
  pub named : plan.frame.0 ≡ frame

-- a device's bundle
pub record IsHeld (plant : Plant) (plans : List FramePlan) (bundles : List Bundle) (device : ℕ) (b : Bundle) : Type 0 where
  pub d : Device
  pub there : slice_get plant.devices device ≡ Some d
  pub is : IsBundleOf plant plans device d b

pub held_at : (plant : Plant) (plans : List FramePlan) (bundles : List Bundle) → AreBundlesOf plant plans bundles → (device : ℕ) (b : Bundle) →
    slice_get bundles device ≡ Some b → IsHeld plant plans bundles device b
held_at plant plans bundles are device b at =
    let within : device < length plant.devices = omega (arith, slice_get_within bundles device b at, are.count) in
    let (d, there) = some_at plant.devices device within in
    record { d = d; there = there; is = are.each device d b there at }

within_entries : (entries : List (Option Entry)) (device : ℕ) (e : Entry) → slice_index_or entries device None ≡ Some e → device < length entries
within_entries entries device e is = elim (cases_lt device (length entries)) [
  | inl less ↦ less
  | inr past ↦ no_entry e (sym (get_or_past entries device None past) ∙ is)
]

-- a frame's windows are told by its own entries
pub same_windows : (plant : Plant) (xs ys : List FrameBlock) (frame : ℕ) →
    ((d : ℕ) → entry_at (setup plant xs) d frame ≡ entry_at (setup plant ys) d frame) →
    (device : ℕ) (w : SendWindow) → HasWindow (setup plant xs) frame device w → HasWindow (setup plant ys) frame device w
same_windows plant xs ys frame same _ _ (at_anchor d e is anchor) = at_anchor d e (sym (same d) ∙ is) anchor
same_windows plant xs ys frame same _ _ (behind d e parent port hop w dev is other comes sends hops held) =
    behind d e parent port hop w dev (sym (same d) ∙ is) other
    (record { received = comes.received; sent = (comes.sent.0, sym (same parent) ∙ comes.sent.1, comes.sent.2); leads = comes.leads })
    (same_windows plant xs ys frame same parent w sends) hops held

-- what a setup says of a frame at a place, said of its plan alone
pub record IsSentAlone (plant : Plant) (plans : List FramePlan) (device port frame : ℕ) (e : Entry) (w : SendWindow) : Type 0 where
  pub plan : FramePlan
  pub placed : Contains plans plan
  pub named : plan.frame.0 ≡ frame
  pub sends : IsUsing plant plan device port e w

pub record IsForwardedAlone (plant : Plant) (plans : List FramePlan) (device frame : ℕ) (e : Entry) (hop : ℕ) (w : SendWindow) : Type 0 where
  pub plan : FramePlan
  pub placed : Contains plans plan
  pub named : plan.frame.0 ≡ frame
  pub comes : IsForwarded (alone plant plan) device plan.frame.0 e hop w

module _ (plant : Plant) (routes : RouteTables) (plans : List FramePlan) (bundles : List Bundle) (whole : IsWhole plant routes plans bundles) where
  pub shaped : (plan : FramePlan) → Contains plans plan → IsShaped plant routes plan
  shaped plan has =
      let (n, at) = place_of plans plan has in
      shaped_at plant routes whole.fit.order (take n plans) n plan (whole.fit.placed n plan at)

  pub from_blocks : (device frame : ℕ) (e : Entry) → entry_at (setup_of plant bundles) device frame ≡ Some e → IsPlacedEntry plans device frame e
  from_blocks device frame e is =
      let (block, here, holds) = bound (λ (b : FrameBlock). find (λ (x : Entry). x.frame.0 == frame) b.entries)
      (slice_get (map (λ (b : Bundle). b.frames) bundles) device) e is in
      let (b, at, same) = mapped (λ (b : Bundle). b.frames) (slice_get bundles device) block (sym (slice_get-map (λ (b : Bundle). b.frames) bundles device) ∙ here) in
      let (n, stands, passes) = found_at (λ (x : Entry). x.frame.0 == frame) block.entries e holds in
      let own = (held_at plant plans bundles whole.blocks device b at).is in
      let (plan, placed, there) = own.entries.only e (contains_at b.frames.entries n e (ap (λ (f : FrameBlock). slice_get f.entries n) same ∙ stands)) in
      let s = shaped plan placed in
      let frames = entry_frame plant (parents_of routes s.index) s.demand s.ratio s.phase plan s.shape device e there in
      record { plan = plan; placed = placed; there = there; named = sym (ap (λ (f : FrameId). f.0) frames) ∙ eqb-true e.frame.0 frame passes }

  pub to_blocks : (plan : FramePlan) → Contains plans plan → (device : ℕ) (e : Entry) → entry_of plan device ≡ Some e →
      entry_at (setup_of plant bundles) device plan.frame.0 ≡ Some e
  to_blocks plan placed device e is =
      let s = shaped plan placed in
      let within : device < length bundles = omega (arith, within_entries plan.entries device e is, s.shape.count, whole.blocks.count) in
      let (b, at) = some_at bundles device within in
      let own = (held_at plant plans bundles whole.blocks device b at).is in
      let (n, stands) = place_of b.frames.entries e (own.entries.all plan e placed is) in
      let named = ap (λ (f : FrameId). f.0) (entry_frame plant (parents_of routes s.index) s.demand s.ratio s.phase plan s.shape device e is) in
      let one = λ (m : ℕ) (g : Entry) (there : slice_get b.frames.entries m ≡ Some g) (passes : (g.frame.0 == plan.frame.0) ≡ true).
      same_there plan placed device e is g (own.entries.only g (contains_at b.frames.entries m g there)) (eqb-true g.frame.0 plan.frame.0 passes) in
      ap (option_and_then (λ (f : FrameBlock). find (λ (x : Entry). x.frame.0 == plan.frame.0) f.entries))
      (slice_get-map (λ (x : Bundle). x.frames) bundles device ∙ ap (option_map (λ (x : Bundle). x.frames)) at)
      ∙ find_one (λ (x : Entry). x.frame.0 == plan.frame.0) b.frames.entries n e stands (eq-eqb e.frame.0 plan.frame.0 named) one
    where
      same_there : (plan : FramePlan) → Contains plans plan → (device : ℕ) (e : Entry) → entry_of plan device ≡ Some e → (g : Entry) →
          ((other : FramePlan) × Contains plans other × (entry_of other device ≡ Some g)) → g.frame.0 ≡ plan.frame.0 → g ≡ e
      same_there plan placed device e is g (other, also, there) named =
          let t = shaped other also in
          let frames = ap (λ (f : FrameId). f.0) (entry_frame plant (parents_of routes t.index) t.demand t.ratio t.phase other t.shape device g there) in
          let plans_same = same_plan plant routes whole.are.rules plans whole.fit other plan also placed (sym frames ∙ named) in
          same_Some g e (sym there ∙ ap (λ (p : FramePlan). entry_of p device) plans_same ∙ is)

  merged_at : (plan : FramePlan) → Contains plans plan → (device : ℕ) (o p : Option Entry) → entry_at (setup_of plant bundles) device plan.frame.0 ≡ o →
      entry_at (alone plant plan) device plan.frame.0 ≡ p → o ≡ p
  merged_at plan placed device None None is at = refl
  merged_at plan placed device None (Some f) is at =
      no_entry f (sym is ∙ to_blocks plan placed device f (entry_from plant plan.entries device plan.frame.0 f at))
  merged_at plan placed device (Some e) p is at =
      let s = shaped plan placed in
      let has = from_blocks device plan.frame.0 e is in
      let same = same_plan plant routes whole.are.rules plans whole.fit has.plan plan has.placed placed has.named in
      let there = ap (λ (x : FramePlan). entry_of x device) (sym same) ∙ has.there in
      sym (stands_alone plant (parents_of routes s.index) s.demand s.ratio s.phase plan s.shape device e there) ∙ at

  pub merged : (plan : FramePlan) → Contains plans plan → (device : ℕ) →
      entry_at (setup_of plant bundles) device plan.frame.0 ≡ entry_at (alone plant plan) device plan.frame.0
  merged plan placed device = merged_at plan placed device _ _ refl refl

  pub sent_alone : (device port frame : ℕ) (e : Entry) (w : SendWindow) → IsSending (setup_of plant bundles) device port frame e w → IsSentAlone plant plans device port frame e w
  sent_alone device port frame e w sending =
      let has = from_blocks device frame e sending.stands in
      let same = merged has.plan has.placed in
      let now = subst (λ f. IsSending (setup_of plant bundles) device port f e w) (sym has.named) sending in record {
        plan = has.plan;
        placed = has.placed;
        named = has.named;
        sends = record {
          stands = sym (same device) ∙ now.stands;
          leaves = now.leaves;
          sends = same_windows plant (setup_of plant bundles).blocks (alone plant has.plan).blocks has.plan.frame.0 same device w now.sends;
        };
      }

  pub forwarded_alone : (device frame : ℕ) (e : Entry) (hop : ℕ) (w : SendWindow) → IsForwarded (setup_of plant bundles) device frame e hop w → IsForwardedAlone plant plans device frame e hop w
  forwarded_alone device frame e hop w comes =
      let has = from_blocks device frame e comes.stands in
      let same = merged has.plan has.placed in
      let now = subst (λ f. IsForwarded (setup_of plant bundles) device f e hop w) (sym has.named) comes in record {
        plan = has.plan;
        placed = has.placed;
        named = has.named;
        comes = record {
          parent = now.parent;
          port = now.port;
          stands = sym (same device) ∙ now.stands;
          comes = record {
            received = now.comes.received;
            sent = (now.comes.sent.0, sym (same now.parent) ∙ now.comes.sent.1, now.comes.sent.2);
            leads = now.comes.leads;
          };
          hops = now.hops;
          sends = same_windows plant (setup_of plant bundles).blocks (alone plant has.plan).blocks has.plan.frame.0 same now.parent w now.sends;
        };
      }
