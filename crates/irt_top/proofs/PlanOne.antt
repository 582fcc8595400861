-- Planning a plant comes to one thing.
use Rattle.std.proofs.Common.{◌≡◌, ◌<◌, ◌≤◌, ◌⊎◌, inl, inr, ℕ, List, [], ◌∷◌, ◌++◌, Option, Some, None, refl, sym, ◌∙◌, ap, subst, append_assoc, arith}
use Rattle.std.proofs.lemmas.Bool.{cases_order}
use Rattle.irt_base.specs.Wiring.{peer_of}
use Rattle.irt_base.specs.declared.blocks.Bundle.{Bundle}
use Rattle.irt_base.specs.declared.blocks.Entry.{Entry}
use Rattle.irt_base.specs.declared.numbers.DevId.{DevId}
use Rattle.irt_base.specs.declared.numbers.FrameId.{FrameId}
use Rattle.irt_base.specs.declared.numbers.PortNo.{PortNo}
use Rattle.irt_base.specs.declared.plants.Demand.{Demand}
use Rattle.irt_base.specs.declared.plants.Plant.{Plant}
use Rattle.irt_route.proofs.TreeLaws.{walk_append}
use Rattle.irt_route.specs.Routes.{RouteTables, IsRoutesOf, IsRouteFault, IsAmong}
use Rattle.irt_route.specs.Trees.{Parents, parent_at, IsTreeParent, IsTreeStep, IsOnTree}
use Rattle.irt_route.specs.Walks.{Peers, IsBestWalk}
use Rattle.irt_route.specs.declared.fault.RouteFault.{RouteFault}
use Rattle.irt_route.specs.declared.fault.RouteFault.TheVariants as faults
use Rattle.fit_rules.proofs.Lists.{place_of}
use Rattle.fit_rules.specs.declared.frame_plan.FramePlan.{FramePlan}
use Rattle.fit_rules.specs.Blocks.{AreFirstFit}
use Rattle.fit_rules.specs.Fit.{IsInPhase, IsFirstFit, HasNoFit}
use Rattle.fit_rules.specs.Order.{IsDemandAt, parents_of, IsPlacedAt, IsFit, IsOverrun}
use Rattle.fit_rules.specs.Shape.{IsOn, IsSentBy, IsEntryOf, HasShape}
use Rattle.irt_top.specs.Plan.{IsNoWalk, OverrunsAt, ArePlanned, Planning, no_walk, overruns, planned, IsPlanning}

-- ---- trees that agree

abbrev Agree : Parents → Parents → Type 0
Agree p q = (device : ℕ) → parent_at p device ≡ parent_at q device

back : (p q : Parents) → Agree p q → Agree q p
back p q agree device = sym (agree device)

on_too : (demand : Demand) (p q : Parents) → Agree p q → (device : ℕ) → IsOn demand p device → IsOn demand q device
on_too demand p q agree device (inl same) = inl same
on_too demand p q agree device (inr (from, is)) = inr (from, sym (agree device) ∙ is)

sent_too : (p q : Parents) → Agree p q → (device port : ℕ) → IsSentBy p device port → IsSentBy q device port
sent_too p q agree device port (child, is) = (child, sym (agree child) ∙ is)

entry_too : (plant : Plant) (p q : Parents) → Agree p q → (demand : Demand) (ratio phase device : ℕ) (e : Entry) →
    IsEntryOf plant p demand ratio phase device e → IsEntryOf plant q demand ratio phase device e
entry_too plant p q agree demand ratio phase device e a = record {
  on = on_too demand p q agree device a.on;
  frame = a.frame;
  length = a.length;
  ratio_is = a.ratio_is;
  phase_is = a.phase_is;
  provided = a.provided;
  received = λ from is. a.received from (agree device ∙ is);
  sent = λ port from_one. (
    λ bit. sent_too p q agree device port ((a.sent port from_one).0 bit),
    λ by. (a.sent port from_one).1 (sent_too q p (back p q agree) device port by),
  );
  kept = a.kept;
  small = a.small;
}

shape_too : (plant : Plant) (p q : Parents) → Agree p q → (demand : Demand) (ratio phase : ℕ) (plan : FramePlan) →
    HasShape plant p demand ratio phase plan → HasShape plant q demand ratio phase plan
shape_too plant p q agree demand ratio phase plan a = record {
  frame = a.frame;
  count = a.count;
  each = λ device e is. entry_too plant p q agree demand ratio phase device e (a.each device e is);
  full = λ device on. a.full device (on_too demand q p (back p q agree) device on);
  idle = a.idle;
}

in_phase_too : (plant : Plant) (p q : Parents) → Agree p q → (placed : List FramePlan) (demand : Demand) (phase : ℕ) (plan : FramePlan) →
    IsInPhase plant p placed demand phase plan → IsInPhase plant q placed demand phase plan
in_phase_too plant p q agree placed demand phase plan a =
    record { ratio = a.ratio; rate = a.rate; among = a.among; shape = shape_too plant p q agree demand a.ratio phase plan a.shape; fitted = a.fitted }

first_too : (plant : Plant) (p q : Parents) → Agree p q → (placed : List FramePlan) (demand : Demand) (plan : FramePlan) →
    IsFirstFit plant p placed demand plan → IsFirstFit plant q placed demand plan
first_too plant p q agree placed demand plan a = record {
  phase = a.phase;
  end = a.end;
  is = in_phase_too plant p q agree placed demand a.phase plan a.is;
  ends = a.ends;
  best = λ phase end other is ends. a.best phase end other (in_phase_too plant q p (back p q agree) placed demand phase other is) ends;
}

none_too : (plant : Plant) (p q : Parents) → Agree p q → (placed : List FramePlan) (demand : Demand) → HasNoFit plant p placed demand → HasNoFit plant q placed demand
none_too plant p q agree placed demand none phase plan is = none phase plan (in_phase_too plant q p (back p q agree) placed demand phase plan is)

-- ---- trees of one demand agree

-- in a tree of best walks a device has one parent, and the start has none
pub record TreeLaws : Type 0 where
  pub one : (peers : Peers) (start : ℕ) (ends : List DevId) (from other : DevId × PortNo) (to : ℕ) →
      IsTreeStep peers start (IsAmong ends) from to → IsTreeStep peers start (IsAmong ends) other to → from ≡ other
  pub start : (peers : Peers) (start : ℕ) (ends : List DevId) (from : DevId × PortNo) → IsTreeStep peers start (IsAmong ends) from start → ⊥

-- a device to which a step comes is on the tree
stepped : (peers : Peers) (start : ℕ) (IsEnd : ℕ → Type 0) (from : DevId × PortNo) (to : ℕ) → IsTreeStep peers start IsEnd from to → IsOnTree peers start IsEnd to
stepped peers start IsEnd from to s =
    let best = s.step in
    let step = best.step in
    record {
      end = s.end;
      is_end = s.is_end;
      front = step.front ++ from.1 ∷ [];
      back = step.back;
      best = subst (λ ps. IsBestWalk peers start ps s.end) (step.split ∙ sym (append_assoc step.front (from.1 ∷ []) step.back)) best.best;
      here = walk_append peers start step.front (from.1 ∷ []) from.0.0 to step.before (step.far, step.over, step.there);
    }

module _ (laws : TreeLaws) (peers : Peers) (start : ℕ) (ends : List DevId) (device : ℕ) where
  never : (from : DevId × PortNo) → IsTreeParent peers start (IsAmong ends) device None → IsTreeStep peers start (IsAmong ends) from device → ⊥
  never from (inl same) step = laws.start peers start ends from (subst (IsTreeStep peers start (IsAmong ends) from) same step)
  never from (inr off) step = off (stepped peers start (IsAmong ends) from device step)

  same_parent : (o other : Option (DevId × PortNo)) → IsTreeParent peers start (IsAmong ends) device o → IsTreeParent peers start (IsAmong ends) device other → o ≡ other
  same_parent None None a b = refl
  same_parent None (Some from) a b = absurd (never from a b)
  same_parent (Some from) None a b = absurd (never from b a)
  same_parent (Some from) (Some other) a b = ap Some (laws.one peers start ends from other device a b)

module _ (laws : TreeLaws) (plant : Plant) (r s : RouteTables) (first : IsRoutesOf plant r) (second : IsRoutesOf plant s) where
  agree_at : (index : ℕ) (demand : Demand) → IsDemandAt plant index demand → Agree (parents_of r index) (parents_of s index)
  agree_at index demand there device =
      same_parent laws (peer_of plant) demand.provider.0 demand.consumers device (parent_at (parents_of r index) device) (parent_at (parents_of s index) device)
      ((first.trees index demand there).tree device) ((second.trees index demand there).tree device)

  placed_too : (order : List ℕ) (placed : List FramePlan) (n : ℕ) (plan : FramePlan) → IsPlacedAt plant r order placed n plan → IsPlacedAt plant s order placed n plan
  placed_too order placed n plan a = record {
    index = a.index;
    demand = a.demand;
    next = a.next;
    there = a.there;
    fit = first_too plant (parents_of r a.index) (parents_of s a.index) (agree_at a.index a.demand a.there) placed a.demand plan a.fit;
  }

  fit_too : (plans : List FramePlan) → IsFit plant r plans → IsFit plant s plans
  fit_too plans a =
      record { order = a.order; is_order = a.is_order; all = a.all; placed = λ n plan is. placed_too a.order _ n plan (a.placed n plan is) }

  pub first_fit_too : (bundles : List Bundle) → AreFirstFit plant r bundles → AreFirstFit plant s bundles
  first_fit_too bundles a = record { plans = a.plans; fit = fit_too a.plans a.fit; blocks = a.blocks }

  pub overrun_too : (frame : FrameId) → IsOverrun plant r frame → IsOverrun plant s frame
  overrun_too frame a = record {
    order = a.order;
    is_order = a.is_order;
    plans = a.plans;
    placed = λ n plan is. placed_too a.order _ n plan (a.placed n plan is);
    index = a.index;
    demand = a.demand;
    next = a.next;
    there = a.there;
    named = a.named;
    none = none_too plant (parents_of r a.index) (parents_of s a.index) (agree_at a.index a.demand a.there) a.plans a.demand a.none;
  }

-- ---- walks that are not there

-- a plant that has routes lacks no walk
pub walks_there : (plant : Plant) (fault : RouteFault) (routes : RouteTables) → IsNoWalk plant fault → IsRoutesOf plant routes → ⊥
walks_there plant faults.NoMemory routes fault are = fault
walks_there plant (faults.Unreachable frame device) routes (unreached, first) are =
    let (demand, has, one) = unreached in
    let (index, there) = place_of plant.demands demand has in
    let (ports, best) = (are.trees index demand there).reached device.0 one.consumer in
    one.apart ports best.walk
walks_there plant (faults.NoPath traffic) routes (reached, cut) are = cut.apart _ (are.walks traffic cut.entry cut.there).walk

-- the two refusals exclude each other
reached_all : (plant : Plant) (frame : FrameId) (device : DevId) (traffic : ℕ) → IsRouteFault plant (faults.Unreachable frame device) → IsRouteFault plant (faults.NoPath traffic) → ⊥
reached_all plant frame device traffic (unreached, first) (reached, cut) =
    let (demand, has, one) = unreached in
    let (ports, best) = reached demand has device.0 one.consumer in
    one.apart ports best.walk

same_frame : (a b : FrameId) → a.0 ≡ b.0 → a ≡ b
same_frame a b is = λ i. record { 0 = is i }

same_device : (a b : DevId) → a.0 ≡ b.0 → a ≡ b
same_device a b is = λ i. record { 0 = is i }

both_first : (f g d e : ℕ) → (f < g) ⊎ ((f ≡ g) × (d ≤ e)) → (g < f) ⊎ ((g ≡ f) × (e ≤ d)) → (f ≡ g) × (d ≡ e)
both_first f g d e (inl less) (inl more) = absurd (omega arith)
both_first f g d e (inl less) (inr more) = absurd (omega (arith, more.0))
both_first f g d e (inr less) (inl more) = absurd (omega (arith, less.0))
both_first f g d e (inr less) (inr more) = (less.0, omega (arith, less.1, more.1))

same_fault : (plant : Plant) (a b : RouteFault) → IsNoWalk plant a → IsNoWalk plant b → a ≡ b
same_fault plant faults.NoMemory b first second = absurd first
same_fault plant a faults.NoMemory first second = absurd second
same_fault plant (faults.Unreachable frame device) (faults.Unreachable other target) (here, least) (there, lowest) =
    let same = both_first frame.0 other.0 device.0 target.0 (least other.0 target.0 there) (lowest frame.0 device.0 here) in
    let frames = same_frame frame other same.0 in
    let devices = same_device device target same.1 in
    λ i. faults.Unreachable (frames i) (devices i)
same_fault plant (faults.Unreachable frame device) (faults.NoPath traffic) first second = absurd (reached_all plant frame device traffic first second)
same_fault plant (faults.NoPath traffic) (faults.Unreachable frame device) first second = absurd (reached_all plant frame device traffic second first)
same_fault plant (faults.NoPath t) (faults.NoPath u) first second =
    let one = first.1 in
    let two = second.1 in
    elim (cases_order t u) [
      | inl same ↦ ap (λ n. faults.NoPath n) same
      | inr (inl less) ↦ let (ports, walk) = two.first t one.entry less one.there in absurd (one.apart ports walk)
      | inr (inr more) ↦ let (ports, walk) = one.first u two.entry more two.there in absurd (two.apart ports walk)
    ]

-- ---- one answer

-- first fit has one answer
pub record FitLaws : Type 0 where
  pub bundles : (plant : Plant) (routes : RouteTables) (bundles others : List Bundle) → IsRoutesOf plant routes →
      AreFirstFit plant routes bundles → AreFirstFit plant routes others → bundles ≡ others
  pub excluded : (plant : Plant) (routes : RouteTables) (plans : List FramePlan) (frame : FrameId) →
      IsRoutesOf plant routes → IsFit plant routes plans → IsOverrun plant routes frame → ⊥
  pub overruns : (plant : Plant) (routes : RouteTables) (frame other : FrameId) → IsRoutesOf plant routes →
      IsOverrun plant routes frame → IsOverrun plant routes other → frame ≡ other

module _ (trees : TreeLaws) (fits : FitLaws) (plant : Plant) where
  no_plan : (frame : FrameId) (bundles : List Bundle) → OverrunsAt plant frame → ArePlanned plant bundles → ⊥
  no_plan frame bundles a b =
      fits.excluded plant a.routes b.first_fit.plans frame a.are_routes (fit_too trees plant b.routes a.routes b.are_routes a.are_routes b.first_fit.plans b.first_fit.fit) a.overrun

  pub one_planning : (a b : Planning) → IsPlanning plant a → IsPlanning plant b → a ≡ b
  one_planning (no_walk f) (no_walk g) first second = ap no_walk (same_fault plant f g first second)
  one_planning (no_walk f) (overruns frame) first second = absurd (walks_there plant f second.routes first second.are_routes)
  one_planning (no_walk f) (planned bundles) first second = absurd (walks_there plant f second.routes first second.are_routes)
  one_planning (overruns frame) (no_walk g) first second = absurd (walks_there plant g first.routes second first.are_routes)
  one_planning (overruns frame) (overruns other) first second =
      ap overruns
      (fits.overruns plant first.routes frame other first.are_routes first.overrun
      (overrun_too trees plant second.routes first.routes second.are_routes first.are_routes other second.overrun))
  one_planning (overruns frame) (planned bundles) first second = absurd (no_plan frame bundles first second)
  one_planning (planned bundles) (no_walk g) first second = absurd (walks_there plant g first.routes second first.are_routes)
  one_planning (planned bundles) (overruns frame) first second = absurd (no_plan frame bundles second first)
  one_planning (planned bundles) (planned others) first second =
      ap planned
      (fits.bundles plant first.routes bundles others first.are_routes first.first_fit
      (first_fit_too trees plant second.routes first.routes second.are_routes first.are_routes others second.first_fit))
