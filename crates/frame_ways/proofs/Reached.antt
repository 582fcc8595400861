-- Each entry of a frame has a stop, as many links from the provider as its walk has.
use Rattle.std.proofs.Common.{◌≡◌, ℕ, zero, suc, inl, inr, List, Some, length, refl, sym, ◌∙◌, ap, subst, arith}
use Rattle.std.proofs.lemmas.Option.{same_Some, slice_get_within}
use Rattle.irt_base.specs.Wiring.{peer_of}
use Rattle.irt_base.specs.declared.blocks.Entry.{Entry}
use Rattle.irt_base.specs.declared.numbers.DevId.{DevId}
use Rattle.irt_base.specs.declared.numbers.PortNo.{PortNo}
use Rattle.irt_base.specs.declared.plants.Demand.{Demand}
use Rattle.irt_base.specs.declared.plants.Plant.{Plant}
use Rattle.irt_route.specs.Trees.{Parents, parent_at}
use Rattle.plan_rules.specs.Way.{IsParent, Leaves}
use Rattle.fit_rules.specs.declared.frame_plan.FramePlan.{FramePlan}
use Rattle.fit_rules.specs.Shape.{alone, entry_of}
use Rattle.frame_ways.specs.declared.stops.Stop.{Stop}
use Rattle.frame_ways.specs.Entries.{IsBase}
use Rattle.frame_ways.specs.Stops.{IsListed, HasLinks, AreStopsTo}
use Rattle.frame_ways.proofs.Alone.{entry_from}
use Rattle.frame_ways.proofs.Ports.{from_one}
use Rattle.frame_ways.proofs.Routed.{IsRouted, IsChainOf, at_of_step, chain_of_on}

module _ (plant : Plant) (parents : Parents) (demand : Demand) (routed : IsRouted plant parents demand) (base : FramePlan) (is : IsBase plant parents demand base) where
  -- a device that has the frame from nobody provides it
  pub provides : (device : ℕ) (e : Entry) → entry_of base device ≡ Some e → e.rx_port ≡ 0 → device ≡ demand.provider.0
  provides device e stands zeroth = elim (is.shape.each device e stands).on [
    | inl own ↦ own
    | inr up ↦ absurd (omega (arith, ((is.shape.each device e stands).received up.0 up.1).from_one, zeroth))
  ]

  -- parents in the tree and in the entries are one
  same_parent : (device : ℕ) (e : Entry) (parent port : ℕ) (from : DevId × PortNo) → entry_of base device ≡ Some e → parent_at parents device ≡ Some from →
      IsParent (alone plant base) base.frame.0 device e parent port → from.0.0 ≡ parent
  same_parent device e parent port from stands at comes =
      let received = (is.shape.each device e stands).received from at in
      let one = routed.both from.0.0 from.1.0 device e.rx_port received.leads in
      let other = routed.both parent port device e.rx_port comes.leads in
      ap (λ (x : DevId × PortNo). x.0.0) (same_Some (let x : DevId × PortNo = (record { 0 = from.0.0 }, record { 0 = from.1.0 }) in x) _ (sym one ∙ other))

  pub links_one : (links n device : ℕ) → HasLinks (alone plant base) base.frame.0 links device → IsChainOf plant demand n device → links ≡ n
  links_one zero zero device has chain = refl
  links_one zero (suc n) device (e, stands, zeroth) (from, step, rest) =
      let own = entry_from plant base device e stands in
      let at = at_of_step plant parents demand routed device from step in
      absurd (omega (arith, ((is.shape.each device e own).received from at).from_one, zeroth))
  links_one (suc links) zero device (e, parent, port, stands, comes, rest) same =
      let own = entry_from plant base device e stands in
      absurd (omega (arith, comes.received, (is.shape.each device e own).provided same))
  links_one (suc links) (suc n) device (e, parent, port, stands, comes, more) (from, step, rest) =
      let own = entry_from plant base device e stands in
      let at = at_of_step plant parents demand routed device from step in
      let up = same_parent device e parent port from own at comes in
      ap suc (links_one links n parent more (subst (IsChainOf plant demand n) up rest))

  module _ (stops : List Stop) (are : AreStopsTo plant base stops (length stops) 0) where
    listed_along : (links device : ℕ) → IsChainOf plant demand links device → IsListed stops device
    listed_along zero device same =
        let (s, there, zeroth) = are.first in
        (0, s, there, provides s.device.0 s.entry (are.each 0 s there).stands zeroth ∙ sym same)
    listed_along (suc links) device (from, step, rest) =
        let (n, t, there, here) = listed_along links from.0.0 rest in
        let far = step.step.step.far in
        let over : peer_of plant t.device.0 from.1.0 ≡ Some far = ap (λ d. peer_of plant d from.1.0) here ∙ step.step.step.over in
        let low = from_one plant routed.rules t.device.0 from.1.0 far over in
        let at = at_of_step plant parents demand routed device from step in
        let up = subst (λ d. parent_at parents device ≡ Some (record { 0 = d }, record { 0 = from.1.0 })) (sym here) at in
        let leaves : Leaves t.entry from.1.0 = record { from_one = low; bit = ((is.shape.each t.device.0 t.entry (are.each n t there).stands).sent from.1.0 low).1 (device, up) } in
        subst (IsListed stops) step.step.step.there (are.next n from.1.0 t far there (inl (slice_get_within stops n t there)) leaves over)

    pub listed : (device : ℕ) (e : Entry) → entry_of base device ≡ Some e → IsListed stops device
    listed device e stands =
        let (links, chain) = chain_of_on plant parents demand routed device (is.shape.each device e stands).on in
        listed_along links device chain
