-- The tree of a demand, as its entries follow it.
use Rattle.std.proofs.Common.{◌≡◌, ℕ, ◌≤◌, ◌⊎◌, inl, inr, List, [], ◌∷◌, ◌++◌, length, Option, Some, None, sym, ◌∙◌, ap, subst, arith, refl, append_assoc}
use Rattle.std.specs.Prelude.{Contains}
use Rattle.std.proofs.lemmas.Bool.{both_ways, eq-eqb}
use Rattle.std.proofs.lemmas.List.{append-nil}
use Rattle.std.proofs.lemmas.List.Elements.{All-contains, All-from_recursion}
use Rattle.irt_base.specs.Wiring.{peer_of}
use Rattle.irt_base.specs.declared.blocks.Entry.{Entry}
use Rattle.irt_base.specs.declared.numbers.DevId.{DevId}
use Rattle.irt_base.specs.declared.numbers.PortNo.{PortNo}
use Rattle.irt_base.specs.declared.plants.Demand.{Demand}
use Rattle.irt_base.specs.declared.plants.Plant.{Plant}
use Rattle.irt_route.specs.Routes.{RouteTables, IsRoutesOf, IsAmong, IsConsumer, IsTreeOf}
use Rattle.irt_route.specs.Trees.{Parents, parent_at, IsTreeParent, IsTreeStep, IsOnTree, IsParentChain, IsLeft}
use Rattle.irt_route.specs.Walks.{Peers, IsWalk, IsBestWalk}
use Rattle.plant_rules.specs.Meets.{MeetsRules, IsDemand, IsConsumer as IsValidConsumer}
use Rattle.plan_rules.specs.SendWindow.{SendWindow, HasWindow}
use Rattle.plan_rules.specs.Way.{Setup, IsParent}
use Rattle.fit_rules.specs.declared.frame_plan.FramePlan.{FramePlan}
use Rattle.fit_rules.specs.Order.{IsDemandAt, parents_of}
use Rattle.fit_rules.specs.Shape.{IsOn, IsSentBy}
use Rattle.frame_ways.specs.Entries.{IsBase}
use Rattle.frame_ways.specs.Stops.{IsEntryTree, IsProvided}
use Rattle.frame_ways.proofs.Alone.{entry_stands}
use Rattle.frame_ways.proofs.Lists.{each_at}
use Rattle.frame_ways.proofs.Made.{AreMutual, IsStepOf, HasNoneToStart, step_of}
use Rattle.frame_ways.proofs.Ports.{from_one}

abbrev pub OneParent : Type 0
OneParent = (setup : Setup) → MeetsRules setup.plant → (frame device : ℕ) (e : Entry) (u p v q : ℕ) →
    IsParent setup frame device e u p → IsParent setup frame device e v q → (u ≡ v) × (p ≡ q)

abbrev pub OneWindow : Type 0
OneWindow = (setup : Setup) → MeetsRules setup.plant → (frame device : ℕ) (v w : SendWindow) →
    HasWindow setup frame device v → HasWindow setup frame device w → v ≡ w

abbrev IsOnTreeOf : Plant → Demand → ℕ → Type 0
IsOnTreeOf plant demand device = IsOnTree (peer_of plant) demand.provider.0 (IsAmong demand.consumers) device

abbrev pub IsChainOf : Plant → Demand → ℕ → ℕ → Type 0
IsChainOf plant demand links device = IsParentChain (peer_of plant) demand.provider.0 (IsAmong demand.consumers) links device

abbrev pub OneTreeParent : Type 0
OneTreeParent = (peers : Peers) (start : ℕ) (ends : List DevId) (from other : DevId × PortNo) (to : ℕ) →
    IsTreeStep peers start (IsAmong ends) from to → IsTreeStep peers start (IsAmong ends) other to → from ≡ other

abbrev pub NoneToStart : Type 0
NoneToStart = (peers : Peers) (start : ℕ) (ends : List DevId) (from : DevId × PortNo) → IsTreeStep peers start (IsAmong ends) from start → ⊥

abbrev pub HasChains : Type 0
HasChains = (peers : Peers) (start : ℕ) (ends : List DevId) (device : ℕ) → (on : IsOnTree peers start (IsAmong ends) device) →
    IsParentChain peers start (IsAmong ends) (length on.front) device

abbrev pub HasLeaves : Type 0
HasLeaves = (peers : Peers) (start : ℕ) (ends : List DevId) (device : ℕ) → IsOnTree peers start (IsAmong ends) device →
    IsAmong ends device ⊎ IsLeft peers start (IsAmong ends) device

-- What the laws of the crates below say of a demand, as one premise.
pub record IsRouted (plant : Plant) (parents : Parents) (demand : Demand) : Type 0 where
  pub rules : MeetsRules plant
  pub valid : IsDemand plant demand
  pub tree : IsTreeOf (peer_of plant) demand parents
  pub both : AreMutual plant
  pub parents_one : OneParent
  pub windows_one : OneWindow
  pub one : (from other : DevId × PortNo) (to : ℕ) → IsStepOf plant demand from to → IsStepOf plant demand other to → from ≡ other
  pub start : HasNoneToStart plant demand
  pub chain : (device : ℕ) → (on : IsOnTreeOf plant demand device) → IsChainOf plant demand (length on.front) device
  pub leaves : (device : ℕ) → IsOnTreeOf plant demand device →
      IsAmong demand.consumers device ⊎ IsLeft (peer_of plant) demand.provider.0 (IsAmong demand.consumers) device

pub routed_at : (plant : Plant) (routes : RouteTables) (number : ℕ) (demand : Demand) → IsRoutesOf plant routes → IsDemandAt plant number demand → AreMutual plant →
    OneParent → OneWindow → OneTreeParent → NoneToStart → HasChains → HasLeaves → IsRouted plant (parents_of routes number) demand
routed_at plant routes number demand are at both parents windows one start chain leaves = record {
  rules = are.rules;
  valid = each_at (IsDemand plant) plant.demands number demand are.rules.demands at;
  tree = are.trees number demand at;
  both = both;
  parents_one = parents;
  windows_one = windows;
  one = one (peer_of plant) demand.provider.0 demand.consumers;
  start = start (peer_of plant) demand.provider.0 demand.consumers;
  chain = chain (peer_of plant) demand.provider.0 demand.consumers;
  leaves = leaves (peer_of plant) demand.provider.0 demand.consumers;
}

-- one more step
walk_more : (peers : Peers) (start : ℕ) (ports : List PortNo) (from : DevId × PortNo) (far : DevId × PortNo) (to : ℕ) → IsWalk peers start ports from.0.0 →
    peers from.0.0 from.1.0 ≡ Some far → far.0.0 ≡ to → IsWalk peers start (ports ++ from.1 ∷ []) to
walk_more peers start [] from far to walk over there = (far, ap (λ d. peers d from.1.0) walk ∙ over, there)
walk_more peers start (p ∷ ps) from far to (next, at, rest) over there = (next, at, walk_more peers next.0.0 ps from far to rest over there)

on_tree_walk : (plant : Plant) (demand : Demand) (device : ℕ) (ports : List PortNo) → IsAmong demand.consumers device →
    IsBestWalk (peer_of plant) demand.provider.0 ports device → IsOnTreeOf plant demand device
on_tree_walk plant demand device ports is_end best = record {
  end = device;
  is_end = is_end;
  front = ports;
  back = [];
  best = subst (λ ps. IsBestWalk (peer_of plant) demand.provider.0 ps device) (sym (append-nil ports)) best;
  here = best.walk;
}

on_from : (plant : Plant) (parents : Parents) (demand : Demand) (device : ℕ) (o : Option (DevId × PortNo)) → parent_at parents device ≡ o →
    IsTreeParent (peer_of plant) demand.provider.0 (IsConsumer demand) device o → IsOnTreeOf plant demand device → IsOn demand parents device
on_from plant parents demand device None is (inl same) on = inl same
on_from plant parents demand device None is (inr off) on = absurd (off on)
on_from plant parents demand device (Some from) is step on = inr (from, is)

tree_of_step : (plant : Plant) (demand : Demand) (device : ℕ) (from : DevId × PortNo) → IsStepOf plant demand from device → IsOnTreeOf plant demand device
tree_of_step plant demand device from s =
    let best = s.step in
    let step = best.step in record {
      end = s.end;
      is_end = s.is_end;
      front = step.front ++ from.1 ∷ [];
      back = step.back;
      best =
          subst (λ ps. IsBestWalk (peer_of plant) demand.provider.0 ps s.end) (step.split ∙ sym (append_assoc step.front (from.1 ∷ []) step.back)) best.best;
      here = walk_more (peer_of plant) demand.provider.0 step.front from step.far device step.before step.over step.there;
    }

first_of : (xs : List DevId) → 1 ≤ length xs → (x : DevId) × Contains xs x
first_of [] some = absurd (omega arith)
first_of (x ∷ xs) some = (x, (0, omega arith, refl))

module _ (plant : Plant) (parents : Parents) (demand : Demand) (routed : IsRouted plant parents demand) where
  pub first_consumer : (c : DevId) × Contains demand.consumers c
  first_consumer = first_of demand.consumers routed.valid.some_consumer

  pub consumer_on : (c : DevId) → Contains demand.consumers c → IsOn demand parents c.0
  consumer_on c has =
      let (ports, best) = routed.tree.reached c.0 (c, has, refl) in
      on_from plant parents demand c.0 _ refl (routed.tree.tree c.0) (on_tree_walk plant demand c.0 ports (c, has, refl) best)

  -- a best walk to a consumer is a chain as long
  pub chain_of_walk : (c : DevId) → Contains demand.consumers c → (ports : List PortNo) → IsBestWalk (peer_of plant) demand.provider.0 ports c.0 →
      IsChainOf plant demand (length ports) c.0
  unfolding on_tree_walk
  chain_of_walk c has ports best = routed.chain c.0 (on_tree_walk plant demand c.0 ports (c, has, refl) best)

  step_at : (device : ℕ) (from : DevId × PortNo) → (o : Option (DevId × PortNo)) → parent_at parents device ≡ o →
      IsTreeParent (peer_of plant) demand.provider.0 (IsConsumer demand) device o → IsStepOf plant demand from device → parent_at parents device ≡ Some from
  step_at device from None is (inl same) step = absurd (routed.start from (subst (IsStepOf plant demand from) same step))
  step_at device from None is (inr off) step = absurd (off (tree_of_step plant demand device from step))
  step_at device from (Some other) is also step = is ∙ ap (λ (x : DevId × PortNo). Some x) (routed.one other from device also step)

  -- the table has each step of the tree
  pub at_of_step : (device : ℕ) (from : DevId × PortNo) → IsStepOf plant demand from device → parent_at parents device ≡ Some from
  at_of_step device from step = step_at device from _ refl (routed.tree.tree device) step

  provider_tree : IsOnTreeOf plant demand demand.provider.0
  provider_tree =
      let (c, has) = first_consumer in
      let (ports, best) = routed.tree.reached c.0 (c, has, refl) in
      record { end = c.0; is_end = (c, has, refl); front = []; back = ports; best = best; here = refl }

  tree_of_on : (device : ℕ) → IsOn demand parents device → IsOnTreeOf plant demand device
  tree_of_on device (inl own) = subst (IsOnTreeOf plant demand) (sym own) provider_tree
  tree_of_on device (inr (from, at)) = tree_of_step plant demand device from (step_of plant parents demand routed.tree device from at)

  -- from each device of the tree a chain leads to the provider
  pub chain_of_on : (device : ℕ) → IsOn demand parents device → (links : ℕ) × IsChainOf plant demand links device
  chain_of_on device on = let tree = tree_of_on device on in (length tree.front, routed.chain device tree)

  -- the provider is no consumer of its own frame, so that it sends it
  pub provider_sends : (port : ℕ) × (1 ≤ port) × IsSentBy parents demand.provider.0 port
  provider_sends = elim (routed.leaves demand.provider.0 provider_tree) [
    | inl among ↦
        let valid = All-contains (IsValidConsumer plant demand.provider) demand.consumers among.0
        (All-from_recursion (IsValidConsumer plant demand.provider) demand.consumers routed.valid.consumers) among.1 in
        absurd (both_ways _ valid.other (eq-eqb among.0.0 demand.provider.0 among.2))
    | inr left ↦
        let (from, to, same, step) = left in
        let low = from_one plant routed.rules from.0.0 from.1.0 step.step.step.far step.step.step.over in
        (from.1.0, low, (to, subst (λ n. parent_at parents to ≡ Some (record { 0 = n }, record { 0 = from.1.0 })) same (at_of_step to from step)))
  ]

module _ (plant : Plant) (parents : Parents) (demand : Demand) (base : FramePlan) (is : IsBase plant parents demand base) where
  pub entry_tree : IsEntryTree plant base
  entry_tree = record {
    count = is.shape.count;
    frames = λ device e stands. (is.shape.each device e stands).frame ∙ sym is.shape.frame;
    zero = is.zero;
    small = λ device e stands. (is.shape.each device e stands).small;
    sent = λ device port e stands leaves.
        let (child, at) = ((is.shape.each device e stands).sent port leaves.from_one).0 leaves.bit in
        let (f, there) = is.shape.full child (inr (_, at)) in
        let received = (is.shape.each child f there).received _ at in record {
          receiver = child;
          e = f;
          stands = entry_stands plant base child f there ((is.shape.each child f there).frame ∙ sym is.shape.frame);
          received = received.from_one;
          leads = received.leads;
        };
  }

  pub provided : IsProvided base demand.provider.0
  provided = let (e, there) = is.shape.full demand.provider.0 (inl refl) in (e, there, (is.shape.each demand.provider.0 e there).provided refl)
