-- V2 to V6 and V9 of first fit's bundles.
use Rattle.std.proofs.Common.{◌≡◌, ◌≢◌, ℕ, ◌+◌, ◌*◌, ◌≤◌, ◌⊎◌, inl, inr, List, Option, Some, None, slice_get, option_map, sym, ◌∙◌, ap, subst, arith, refl}
use Rattle.std.specs.Prelude.{take, Contains, IsSome, IsBitSet, slice_set}
use Rattle.std.proofs.lemmas.Bool.{cases_order}
use Rattle.std.proofs.lemmas.List.{set-get_or}
use Rattle.std.proofs.lemmas.Option.{same_Some, slice_get_within}
use Rattle.irt_base.specs.Cycle.{cycle_time, guard_time, wire_time}
use Rattle.irt_base.specs.Wiring.{hop_of}
use Rattle.irt_base.specs.declared.blocks.Bundle.{Bundle}
use Rattle.irt_base.specs.declared.blocks.Entry.{Entry}
use Rattle.irt_base.specs.declared.numbers.FrameId.{FrameId}
use Rattle.irt_base.specs.declared.plants.Demand.{Demand}
use Rattle.irt_base.specs.declared.plants.Device.{Device}
use Rattle.irt_base.specs.declared.plants.Plant.{Plant}
use Rattle.irt_route.specs.Routes.{RouteTables}
use Rattle.plan_rules.specs.Frames.{IsTreeAt, AgreesWithDemand, HasNoIdleOffset, ForwardsLateEnough, KeepsApart, EndsInCycle, IsForwarded}
use Rattle.plan_rules.specs.Plan.{setup_of}
use Rattle.plan_rules.specs.SendWindow.{SendWindow, HasWindow, slack_time}
use Rattle.plan_rules.specs.Tree.{Consumes, IsReached, here, through, IsReceiver, IsTreeEntry}
use Rattle.plan_rules.specs.Way.{entry_at, Leaves, IsParent}
use Rattle.plan_rules.specs.declared.place.Place.{Place}
use Rattle.fit_rules.specs.declared.frame_plan.FramePlan.{FramePlan}
use Rattle.fit_rules.specs.Shape.{alone, entry_of, moved, with_offset, IsOn, IsSentBy, HasShape}
use Rattle.fit_rules.specs.Fit.{IsUsing, HasRoom, IsClear, IsReady, end_time}
use Rattle.fit_rules.specs.Order.{IsDemandAt, parents_of}
use Rattle.fit_rules.proofs.Alike.{anchor_entry}
use Rattle.fit_rules.proofs.Entries.{entry_from}
use Rattle.fit_rules.proofs.Finding.{demand_found, demand_place}
use Rattle.fit_rules.proofs.Links.{hop_fits}
use Rattle.fit_rules.proofs.Lists.{contains_at, place_of, some_at, take_at}
use Rattle.fit_rules.proofs.Merged.{IsWhole, IsShaped, shaped, same_plan, from_blocks, to_blocks, merged, sent_alone, forwarded_alone}
use Rattle.fit_rules.proofs.Placing.{routed_at}
use Rattle.fit_rules.proofs.Routed.{IsRouted, consumer_on, parent_of, goes_on, reached}

frame_named : (plant : Plant) (routes : RouteTables) (plan : FramePlan) → (s : IsShaped plant routes plan) → plan.frame.0 ≡ s.demand.frame.0
frame_named plant routes plan s = ap (λ (f : FrameId). f.0) s.shape.frame

no_bits : (n k : ℕ) → IsBitSet n k → n ≢ 0
no_bits n k set none = subst (λ m. IsBitSet m k) none set refl

pub provided_rx : (plant : Plant) (routes : RouteTables) (plan : FramePlan) → (s : IsShaped plant routes plan) → (device : ℕ) (e : Entry) →
    entry_of plan device ≡ Some e → e.rx_port ≡ 0 → IsOn s.demand (parents_of routes s.index) device → device ≡ s.demand.provider.0
provided_rx plant routes plan s device e is none (inl own) = own
provided_rx plant routes plan s device e is none (inr (from, at)) =
    let one : 1 ≤ e.rx_port = ((s.shape.each device e is).received from at).from_one in absurd (omega arith)

used_somehow : (plant : Plant) (routes : RouteTables) (plan : FramePlan) → (s : IsShaped plant routes plan) → (device : ℕ) (e : Entry) → entry_of plan device ≡ Some e →
    Consumes s.demand device ⊎ ((port : ℕ) × (1 ≤ port) × IsSentBy (parents_of routes s.index) device port) → e.tx ≢ 0
used_somehow plant routes plan s device e is (inl consumes) = no_bits e.tx 0 ((s.shape.each device e is).kept.1 consumes)
used_somehow plant routes plan s device e is (inr (port, one, sent)) = no_bits e.tx port (((s.shape.each device e is).sent port one).1 sent)

-- each demand is placed
pub record IsDemandPlaced (plant : Plant) (routes : RouteTables) (plans : List FramePlan) (index : ℕ) (demand : Demand) : Type 0 where
  pub plan : FramePlan
  pub ratio : ℕ
  pub phase : ℕ
  pub placed : Contains plans plan
  pub shape : HasShape plant (parents_of routes index) demand ratio phase plan

named_on : (plant : Plant) (routes : RouteTables) (index : ℕ) (demand : Demand) → IsRouted plant (parents_of routes index) demand → (device : ℕ) →
    (device ≡ demand.provider.0) ⊎ Consumes demand device → IsOn demand (parents_of routes index) device
named_on plant routes index demand routed device (inl own) = inl own
named_on plant routes index demand routed device (inr consumes) = consumer_on plant (parents_of routes index) demand routed device consumes

-- moved to where it is
moved_self : (plan : FramePlan) (device : ℕ) (e : Entry) → entry_of plan device ≡ Some e → moved plan device e.send_offset ≡ plan
moved_self plan device e is =
    let row : option_map (with_offset e.send_offset) (entry_of plan device) ≡ entry_of plan device = ap (option_map (with_offset e.send_offset)) is ∙ sym is in
    let entries = ap (slice_set plan.entries device) row ∙ set-get_or plan.entries device None in
    λ i. record { frame = plan.frame; entries = entries i }

swapped : {A B : Type 0} → A ⊎ B → B ⊎ A
swapped (inl a) = inr a
swapped (inr b) = inl b

module _ (plant : Plant) (routes : RouteTables) (plans : List FramePlan) (bundles : List Bundle) (whole : IsWhole plant routes plans bundles) where
  -- V2
  parent_merged : (plan : FramePlan) → Contains plans plan → (frame : ℕ) → plan.frame.0 ≡ frame → (device : ℕ) (e : Entry) (parent port : ℕ) →
      IsParent (alone plant plan) plan.frame.0 device e parent port → IsParent (setup_of plant bundles) frame device e parent port
  parent_merged plan placed frame named device e parent port comes = record {
    received = comes.received;
    sent = (
      comes.sent.0,
      subst (λ f. entry_at (setup_of plant bundles) parent f ≡ Some comes.sent.0) named (merged plant routes plans bundles whole plan placed parent ∙ comes.sent.1),
      comes.sent.2,
    );
    leads = comes.leads;
  }

  reached_merged : (plan : FramePlan) → Contains plans plan → (frame : ℕ) → plan.frame.0 ≡ frame → (provider device : ℕ) →
      IsReached (alone plant plan) provider plan.frame.0 device → IsReached (setup_of plant bundles) provider frame device
  reached_merged plan placed frame named provider _ here = here
  reached_merged plan placed frame named provider _ (through device e parent port stands comes before) =
      through device e parent port
      (subst (λ f. entry_at (setup_of plant bundles) device f ≡ Some e) named (merged plant routes plans bundles whole plan placed device ∙ stands))
      (parent_merged plan placed frame named device e parent port comes)
      (reached_merged plan placed frame named provider parent before)

  received_by : (plan : FramePlan) → Contains plans plan → (s : IsShaped plant routes plan) → (device : ℕ) (e : Entry) → entry_of plan device ≡ Some e →
      1 ≤ e.rx_port → IsOn s.demand (parents_of routes s.index) device →
      (parent : ℕ) × (port : ℕ) × IsParent (setup_of plant bundles) s.demand.frame.0 device e parent port
  received_by plan placed s device e is received (inl own) =
      let provided = (s.shape.each device e is).provided own in absurd (omega arith)
  received_by plan placed s device e is received (inr (from, at)) =
      let routed = routed_at whole.known plant routes s.index s.demand whole.are s.there in (
        from.0.0,
        from.1.0,
        parent_merged plan placed s.demand.frame.0 (frame_named plant routes plan s) device e from.0.0 from.1.0
            (parent_of plant (parents_of routes s.index) s.demand routed s.ratio s.phase plan s.shape device e from is at),
      )

  sent_on : (plan : FramePlan) → Contains plans plan → (s : IsShaped plant routes plan) → (device : ℕ) (e : Entry) → entry_of plan device ≡ Some e →
      (port : ℕ) → Leaves e port → IsReceiver (setup_of plant bundles) s.demand.frame.0 device port
  sent_on plan placed s device e is port leaves =
      let (child, at) = ((s.shape.each device e is).sent port leaves.from_one).0 leaves.bit in
      let (g, there) = s.shape.full child (inr ((record { 0 = device }, record { 0 = port }), at)) in
      let received = (s.shape.each child g there).received (record { 0 = device }, record { 0 = port }) at in record {
        receiver = child;
        e = g;
        stands = subst (λ f. entry_at (setup_of plant bundles) child f ≡ Some g) (frame_named plant routes plan s) (to_blocks plant routes plans bundles whole plan placed child g there);
        received = received.from_one;
        leads = received.leads;
      }

  tree_entry : (plan : FramePlan) → Contains plans plan → (s : IsShaped plant routes plan) → (device : ℕ) (e : Entry) → entry_of plan device ≡ Some e →
      IsTreeEntry (setup_of plant bundles) s.demand device e
  tree_entry plan placed s device e is =
      let own = s.shape.each device e is in
      let routed = routed_at whole.known plant routes s.index s.demand whole.are s.there in record {
        provided = (own.provided, λ none. provided_rx plant routes plan s device e is none own.on);
        sent = sent_on plan placed s device e is;
        received = λ received. received_by plan placed s device e is received own.on;
        consumed = own.kept;
        used = used_somehow plant routes plan s device e is (goes_on plant (parents_of routes s.index) s.demand routed device own.on);
        reached = reached_merged plan placed s.demand.frame.0 (frame_named plant routes plan s) s.demand.provider.0 device
            (reached plant (parents_of routes s.index) s.demand routed s.ratio s.phase plan s.shape device own.on);
      }

  pub demand_placed : (index : ℕ) (demand : Demand) → IsDemandAt plant index demand → IsDemandPlaced plant routes plans index demand
  demand_placed index demand there =
      let (n, at) = place_of whole.fit.order index (whole.fit.is_order.all index (slice_get_within plant.demands index demand there)) in
      let (plan, is) = some_at plans n (omega (arith, slice_get_within whole.fit.order n index at, whole.fit.all)) in
      let here = whole.fit.placed n plan is in
      let same : here.index ≡ index = same_Some here.index index (sym here.next ∙ at) in
      let demands : here.demand ≡ demand = same_Some here.demand demand (sym here.there ∙ ap (slice_get plant.demands) same ∙ there) in
      let first = here.fit.is in record {
        plan = plan;
        ratio = first.ratio;
        phase = here.fit.phase;
        placed = contains_at plans n plan is;
        shape =
            subst (λ d. HasShape plant (parents_of routes index) d first.ratio here.fit.phase plan) demands
            (subst (λ i. HasShape plant (parents_of routes i) here.demand first.ratio here.fit.phase plan) same first.shape);
      }

  pub tree_holds : (at : Place) → IsTreeAt plant bundles at
  tree_holds at = record {
    each = λ e is.
        let has = from_blocks plant routes plans bundles whole at.device.0 at.frame e is in
        let s = shaped plant routes plans bundles whole has.plan has.placed in (
          s.demand,
          demand_found plant whole.are.rules s.index at.frame s.demand s.there (sym (frame_named plant routes has.plan s) ∙ has.named),
          tree_entry has.plan has.placed s at.device.0 e has.there,
        );
    present = λ demand found who.
        let asked = demand_place plant at.frame demand found in
        let routed = routed_at whole.known plant routes asked.index demand whole.are asked.there in
        let has = demand_placed asked.index demand asked.there in
        let (e, is) = has.shape.full at.device.0 (named_on plant routes asked.index demand routed at.device.0 who) in
        let stands = to_blocks plant routes plans bundles whole has.plan has.placed at.device.0 e is in
        let named : has.plan.frame.0 ≡ at.frame = ap (λ (f : FrameId). f.0) has.shape.frame ∙ asked.named in
        subst (λ (o : Option Entry). IsSome o) (sym (subst (λ f. entry_at (setup_of plant bundles) at.device.0 f ≡ Some e) named stands)) refl;
  }

  -- V3
  pub demand_holds : (at : Place) → AgreesWithDemand plant bundles at
  demand_holds at demand own e found provides is =
      let has = from_blocks plant routes plans bundles whole at.device.0 at.frame e is in
      let also = from_blocks plant routes plans bundles whole demand.provider.0 at.frame own provides in
      let same = same_plan plant routes whole.are.rules plans whole.fit also.plan has.plan also.placed has.placed (also.named ∙ sym has.named) in
      let s = shaped plant routes plans bundles whole has.plan has.placed in
      let demands : s.demand ≡ demand = same_Some s.demand demand
      (sym (demand_found plant whole.are.rules s.index at.frame s.demand s.there (sym (frame_named plant routes has.plan s) ∙ has.named)) ∙ found) in
      let first = s.shape.each at.device.0 e has.there in
      let second = s.shape.each demand.provider.0 own (ap (λ (p : FramePlan). entry_of p demand.provider.0) (sym same) ∙ also.there) in record {
        length = first.length ∙ ap (λ (d : Demand). d.length) demands;
        update =
            subst (λ d. e.ratio * cycle_time plant.factor ≤ d) (ap (λ (d : Demand). d.update) demands)
            (subst (λ r. r * cycle_time plant.factor ≤ s.demand.update) (sym first.ratio_is) s.rate.update);
        ratio = first.ratio_is ∙ sym second.ratio_is;
        phase = first.phase_is ∙ sym second.phase_is;
      }

  -- V4
  pub idle_holds : (at : Place) → HasNoIdleOffset plant bundles at
  idle_holds at e is idle =
      let has = from_blocks plant routes plans bundles whole at.device.0 at.frame e is in
      let s = shaped plant routes plans bundles whole has.plan has.placed in
      s.shape.idle at.device.0 e has.there idle

  room_at : (n : ℕ) (plan : FramePlan) → slice_get plans n ≡ Some plan → (device port : ℕ) (e : Entry) (w : SendWindow) →
      IsUsing plant plan device port e w → HasRoom plant (take n plans) device port e w
  room_at n plan at device port e w sending =
      let first = (whole.fit.placed n plan at).fit in
      let (own, is, anchor) = anchor_entry (alone plant plan) plan.frame.0 device w sending.sends in
      let fitted = first.is.fitted w.anchor own is anchor in
      let same = moved_self plan w.anchor own (entry_from plant plan.entries w.anchor plan.frame.0 own is) in
      subst (λ x. IsClear plant (take n plans) x w.anchor) same fitted.least.holds device port e w sending refl

  -- what a placed frame sends ends by the red limit
  pub red_ends : (plan : FramePlan) → Contains plans plan → (device port : ℕ) (e : Entry) (w : SendWindow) → IsUsing plant plan device port e w →
      end_time plant device e w ≤ plant.red_max
  red_ends plan placed device port e w sending =
      let (n, at) = place_of plans plan placed in
      (room_at n plan at device port e w sending).red

  -- V5
  late_after : (plan : FramePlan) (device : ℕ) (e : Entry) (ready hop : ℕ) (w : SendWindow) (d : Device) → IsReady plant plan device e ready →
      IsForwarded (alone plant plan) device plan.frame.0 e hop w → slice_get plant.devices device ≡ Some d → w.hi + hop + d.bmax + guard_time plant.window ≤ ready
  late_after plan device e ready hop w d (inl (own, is)) comes held =
      let received : 1 ≤ e.rx_port = comes.comes.received in absurd (omega arith)
  late_after plan device e ready hop w d (inr when) comes held =
      let (up, ports) = whole.known.parents (alone plant plan) whole.are.rules plan.frame.0 device e comes.parent comes.port when.comes.parent when.comes.port comes.comes when.comes.comes in
      let sends = subst (λ x. HasWindow (alone plant plan) plan.frame.0 x when.window) (sym up) when.comes.sends in
      let windows = whole.known.windows (alone plant plan) whole.are.rules plan.frame.0 comes.parent w when.window comes.sends sends in
      let hops : hop ≡ when.hop = same_Some hop when.hop (sym comes.hops ∙ (λ i. hop_of plant (up i) (ports i)) ∙ when.comes.hops) in
      let his : w.hi ≡ when.window.hi = ap (λ (x : SendWindow). x.hi) windows in
      let bridges : d.bmax ≡ when.d.bmax = ap (λ (x : Device). x.bmax) (same_Some d when.d (sym held ∙ when.held)) in
      omega (arith, when.is)

  pub late_holds : (at : Place) → ForwardsLateEnough plant bundles at
  late_holds at e hop w d comes absolute leaving held =
      let own = forwarded_alone plant routes plans bundles whole at.device.0 at.frame e hop w comes in
      let (n, is) = place_of plans own.plan own.placed in
      let first = (whole.fit.placed n own.plan is).fit in
      let fitted = first.is.fitted at.device.0 e own.comes.stands (inr (absolute, leaving)) in
      let after = late_after own.plan at.device.0 e fitted.ready hop w d fitted.is_ready own.comes held in
      let reaches : fitted.ready ≤ e.send_offset = fitted.least.reached in
      omega arith

  -- V6
  pub apart_holds : (at : Place) → KeepsApart plant bundles at
  apart_holds at d e v w less first second shared =
      let one = sent_alone plant routes plans bundles whole at.device.0 at.port at.frame d v first in
      let two = sent_alone plant routes plans bundles whole at.device.0 at.port at.other e w second in
      let (n, here_is) = place_of plans one.plan one.placed in
      let (m, there) = place_of plans two.plan two.placed in
      elim (cases_order n m) [
        | inl same ↦
            let plan : one.plan ≡ two.plan = same_Some one.plan two.plan (sym here_is ∙ ap (slice_get plans) same ∙ there) in
            let frames : at.frame ≡ at.other = sym one.named ∙ ap (λ (x : FramePlan). x.frame.0) plan ∙ two.named in
            absurd (omega arith)
        | inr (inl before) ↦
            swapped ((room_at m two.plan there at.device.0 at.port e w two.sends).apart one.plan d v
            (contains_at (take m plans) n one.plan (take_at plans m n before ∙ here_is)) one.sends (shared.0, shared.2, shared.1))
        | inr (inr after) ↦
            (room_at n one.plan here_is at.device.0 at.port d v one.sends).apart two.plan e w
            (contains_at (take n plans) m two.plan (take_at plans n m after ∙ there)) two.sends shared
      ]

  -- V9
  pub end_holds : (at : Place) → EndsInCycle plant bundles at
  end_holds at e w hop sending hops =
      let own = sent_alone plant routes plans bundles whole at.device.0 at.port at.frame e w sending in
      let ends : w.hi + wire_time e.data_length + slack_time plant.window at.device.0 w.anchor ≤ plant.red_max =
      red_ends own.plan own.placed at.device.0 at.port e w own.sends in
      summed w.hi (wire_time e.data_length) _ plant.red_max hop (guard_time plant.window) (cycle_time plant.factor) ends
      (hop_fits plant whole.are.rules at.device.0 at.port hop hops)
    where
      summed : (hi wire slack limit hop guard cycle : ℕ) → hi + wire + slack ≤ limit → limit + hop + guard ≤ cycle → hi + hop + wire + guard ≤ cycle
      summed hi wire slack limit hop guard cycle ends fits = omega arith
