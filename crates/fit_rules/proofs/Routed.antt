-- The tree of a demand, as a shape follows it.
use Rattle.std.proofs.Common.{◌≡◌, ℕ, zero, suc, ◌≤◌, ◌⊎◌, inl, inr, List, [], ◌∷◌, ◌++◌, length, Option, Some, None, sym, ◌∙◌, ap, subst, arith, refl, append_assoc}
use Rattle.std.specs.Prelude.{Contains}
use Rattle.std.proofs.lemmas.List.{append-nil}
use Rattle.irt_base.specs.Wiring.{peer_of}
use Rattle.irt_base.specs.declared.blocks.Entry.{Entry}
use Rattle.irt_base.specs.declared.numbers.DevId.{DevId}
use Rattle.irt_base.specs.declared.numbers.PortNo.{PortNo}
use Rattle.irt_base.specs.declared.plants.Demand.{Demand}
use Rattle.irt_base.specs.declared.plants.Plant.{Plant}
use Rattle.irt_route.specs.Routes.{IsAmong, IsConsumer, IsTreeOf}
use Rattle.irt_route.specs.Trees.{Parents, parent_at, IsTreeParent, IsTreeStep, IsOnTree, IsParentChain}
use Rattle.irt_route.specs.Walks.{Peers, IsWalk, IsBestWalk}
use Rattle.plant_rules.specs.Meets.{MeetsRules, IsDemand}
use Rattle.plan_rules.specs.Tree.{Consumes, IsReached, here, through}
use Rattle.plan_rules.specs.Way.{IsParent}
use Rattle.fit_rules.specs.declared.frame_plan.FramePlan.{FramePlan}
use Rattle.fit_rules.specs.Shape.{alone, entry_of, IsOn, IsSentBy, HasShape}
use Rattle.fit_rules.proofs.Alike.{stands_alone}
use Rattle.fit_rules.proofs.Known.{Known}
use Rattle.fit_rules.proofs.Links.{peer_port}

-- a demand of a plant that meets its rules, with its tree
pub record IsRouted (plant : Plant) (parents : Parents) (demand : Demand) : Type 0 where
  pub known : Known
  pub rules : MeetsRules plant
  pub valid : IsDemand plant demand
  pub tree : IsTreeOf (peer_of plant) demand parents

abbrev pub IsStepOf : Plant → Demand → DevId × PortNo → ℕ → Type 0
IsStepOf plant demand from device = IsTreeStep (peer_of plant) demand.provider.0 (IsAmong demand.consumers) from device

abbrev pub IsOnTreeOf : Plant → Demand → ℕ → Type 0
IsOnTreeOf plant demand device = IsOnTree (peer_of plant) demand.provider.0 (IsAmong demand.consumers) device

-- one more step
walk_more : (peers : Peers) (start : ℕ) (ports : List PortNo) (from : DevId × PortNo) (far : DevId × PortNo) (to : ℕ) → IsWalk peers start ports from.0.0 →
    peers from.0.0 from.1.0 ≡ Some far → far.0.0 ≡ to → IsWalk peers start (ports ++ from.1 ∷ []) to
walk_more peers start [] from far to walk over there = (far, ap (λ d. peers d from.1.0) walk ∙ over, there)
walk_more peers start (p ∷ ps) from far to (next, at, rest) over there = (next, at, walk_more peers next.0.0 ps from far to rest over there)

consumer_among : (demand : Demand) (device : ℕ) → Consumes demand device → IsAmong demand.consumers device
consumer_among demand device consumes = (record { 0 = device }, consumes, refl)

among_consumer : (demand : Demand) (device : ℕ) → IsAmong demand.consumers device → Consumes demand device
among_consumer demand device (d, has, same) = subst (λ n. Contains demand.consumers (record { 0 = n })) same has

on_tree_walk : (plant : Plant) (demand : Demand) (device : ℕ) (ports : List PortNo) → IsAmong demand.consumers device →
    IsBestWalk (peer_of plant) demand.provider.0 ports device → IsOnTreeOf plant demand device
on_tree_walk plant demand device ports is_end best = record {
  end = device;
  is_end = is_end;
  front = ports;
  back = [];
  best = subst (λ ps. IsBestWalk (peer_of plant) demand.provider.0 ps device) (sym (append-nil ports)) best;
  here = best.walk;
}

on_from : (plant : Plant) (parents : Parents) (demand : Demand) (device : ℕ) (o : Option (DevId × PortNo)) → parent_at parents device ≡ o →
    IsTreeParent (peer_of plant) demand.provider.0 (IsConsumer demand) device o → IsOnTreeOf plant demand device → IsOn demand parents device
on_from plant parents demand device None is (inl same) on = inl same
on_from plant parents demand device None is (inr off) on = absurd (off on)
on_from plant parents demand device (Some from) is step on = inr (from, is)

tree_of_step : (plant : Plant) (demand : Demand) (device : ℕ) (from : DevId × PortNo) → IsStepOf plant demand from device → IsOnTreeOf plant demand device
tree_of_step plant demand device from s =
    let best = s.step in
    let step = best.step in record {
      end = s.end;
      is_end = s.is_end;
      front = step.front ++ from.1 ∷ [];
      back = step.back;
      best =
          subst (λ ps. IsBestWalk (peer_of plant) demand.provider.0 ps s.end) (step.split ∙ sym (append_assoc step.front (from.1 ∷ []) step.back)) best.best;
      here = walk_more (peer_of plant) demand.provider.0 step.front from step.far device step.before step.over step.there;
    }

-- the parent is on the tree
tree_of_parent : (plant : Plant) (demand : Demand) (device : ℕ) (from : DevId × PortNo) → IsStepOf plant demand from device → IsOnTreeOf plant demand from.0.0
tree_of_parent plant demand device from s =
    let best = s.step in
    let step = best.step in record {
      end = s.end;
      is_end = s.is_end;
      front = step.front;
      back = from.1 ∷ step.back;
      best = subst (λ ps. IsBestWalk (peer_of plant) demand.provider.0 ps s.end) step.split best.best;
      here = step.before;
    }

first_of : (xs : List DevId) → 1 ≤ length xs → (x : DevId) × Contains xs x
first_of [] some = absurd (omega arith)
first_of (x ∷ xs) some = (x, (0, omega arith, refl))

module _ (plant : Plant) (parents : Parents) (demand : Demand) (routed : IsRouted plant parents demand) where
  -- a best walk comes through the device, so it has an entry
  pub on_of_tree : (device : ℕ) → IsOnTreeOf plant demand device → IsOn demand parents device
  on_of_tree device on = on_from plant parents demand device _ refl (routed.tree.tree device) on

  pub consumer_on : (device : ℕ) → Consumes demand device → IsOn demand parents device
  consumer_on device consumes =
      let among = consumer_among demand device consumes in
      let (ports, best) = routed.tree.reached device among in
      on_of_tree device (on_tree_walk plant demand device ports among best)

  pub step_of : (device : ℕ) (from : DevId × PortNo) →
      parent_at parents device ≡ Some from → IsStepOf plant demand from device
  step_of device from at =
      subst (IsTreeParent (peer_of plant) demand.provider.0 (IsConsumer demand) device) at (routed.tree.tree device)

  pub parent_on : (device : ℕ) (from : DevId × PortNo) →
      parent_at parents device ≡ Some from → IsOn demand parents from.0.0
  parent_on device from at =
      on_of_tree from.0.0 (tree_of_parent plant demand device from (step_of device from at))

  step_at : (device : ℕ) (from : DevId × PortNo) →
      (o : Option (DevId × PortNo)) → parent_at parents device ≡ o → IsTreeParent (peer_of plant) demand.provider.0 (IsConsumer demand) device o →
      IsStepOf plant demand from device → parent_at parents device ≡ Some from
  step_at device from None is (inl same) step =
      absurd (routed.known.start (peer_of plant) demand.provider.0 demand.consumers from (subst (IsStepOf plant demand from) same step))
  step_at device from None is (inr off) step = absurd (off (tree_of_step plant demand device from step))
  step_at device from (Some other) is also step =
      is ∙ ap (λ (x : DevId × PortNo). Some x) (routed.known.tree_parents (peer_of plant) demand.provider.0 demand.consumers other from device also step)

  -- the table has each step of the tree
  pub at_of_step : (device : ℕ) (from : DevId × PortNo) →
      IsStepOf plant demand from device → parent_at parents device ≡ Some from
  at_of_step device from step = step_at device from _ refl (routed.tree.tree device) step

  provider_tree : IsOnTreeOf plant demand demand.provider.0
  provider_tree =
      let (c, has) = first_of demand.consumers routed.valid.some_consumer in
      let (ports, best) = routed.tree.reached c.0 (c, has, refl) in
      record { end = c.0; is_end = (c, has, refl); front = []; back = ports; best = best; here = refl }

  pub tree_of_on : (device : ℕ) → IsOn demand parents device → IsOnTreeOf plant demand device
  tree_of_on device (inl own) = subst (IsOnTreeOf plant demand) (sym own) (provider_tree)
  tree_of_on device (inr (from, at)) = tree_of_step plant demand device from (step_of device from at)

  -- a device of the tree keeps the frame or sends it on
  pub goes_on : (device : ℕ) → IsOn demand parents device →
      Consumes demand device ⊎ ((port : ℕ) × (1 ≤ port) × IsSentBy parents device port)
  goes_on device on =
      elim (routed.known.leaves (peer_of plant) demand.provider.0 demand.consumers device (tree_of_on device on)) [
        | inl among ↦ inl (among_consumer demand device among)
        | inr left ↦
            let (from, to, same, step) = left in
            let at = at_of_step to from step in
            let over = step.step.step.over in
            let port = peer_port plant routed.rules from.0.0 from.1.0 step.step.step.far over in
            inr (from.1.0, port.within.0, (to, subst (λ n. parent_at parents to ≡ Some (record { 0 = n }, record { 0 = from.1.0 })) same at))
      ]

  -- the entry of the parent in the tree sends to the device
  pub parent_of : (ratio phase : ℕ) (plan : FramePlan) →
      HasShape plant parents demand ratio phase plan → (device : ℕ) (e : Entry) (from : DevId × PortNo) → entry_of plan device ≡ Some e →
      parent_at parents device ≡ Some from → IsParent (alone plant plan) plan.frame.0 device e from.0.0 from.1.0
  parent_of ratio phase plan shape device e from is at =
      let received = (shape.each device e is).received from at in
      let (g, there) = shape.full from.0.0 (parent_on device from at) in
      let port = peer_port plant routed.rules from.0.0 from.1.0 _ received.leads in record {
        received = received.from_one;
        sent = (
          g,
          stands_alone plant parents demand ratio phase plan shape from.0.0 g there,
          record { from_one = port.within.0; bit = ((shape.each from.0.0 g there).sent from.1.0 port.within.0).1 (device, at) },
        );
        leads = received.leads;
      }

  reached_along : (ratio phase : ℕ) (plan : FramePlan) →
      HasShape plant parents demand ratio phase plan → (links device : ℕ) →
      IsParentChain (peer_of plant) demand.provider.0 (IsAmong demand.consumers) links device → IsReached (alone plant plan) demand.provider.0 plan.frame.0 device
  reached_along ratio phase plan shape zero device same =
      subst (IsReached (alone plant plan) demand.provider.0 plan.frame.0) (sym same) here
  reached_along ratio phase plan shape (suc links) device (from, step, rest) =
      let at = at_of_step device from step in
      let (e, is) = shape.full device (inr (from, at)) in
      through device e from.0.0 from.1.0 (stands_alone plant parents demand ratio phase plan shape device e is)
      (parent_of ratio phase plan shape device e from is at)
      (reached_along ratio phase plan shape links from.0.0 rest)

  -- parents lead from each device of the tree to the provider
  pub reached : (ratio phase : ℕ) (plan : FramePlan) →
      HasShape plant parents demand ratio phase plan → (device : ℕ) → IsOn demand parents device → IsReached (alone plant plan) demand.provider.0 plan.frame.0 device
  reached ratio phase plan shape device on =
      let tree = tree_of_on device on in
      reached_along ratio phase plan shape (length tree.front) device
      (routed.known.chains (peer_of plant) demand.provider.0 demand.consumers device tree)
