-- V7, V8, V10, V13 and V14 of first fit's bundles.
use Rattle.std.proofs.Common.{◌≡◌, ℕ, ◌+◌, ◌-◌, ◌%◌, ◌<◌, ◌≤◌, inl, inr, List, Some, slice_get, option_map, sym, ◌∙◌, ap, subst, arith, refl}
use Rattle.std.specs.Prelude.{Contains}
use Rattle.std.proofs.lemmas.Option.{same_Some}
use Rattle.irt_base.specs.Cycle.{cycle_time, guard_time, wire_time}
use Rattle.irt_base.specs.Periods.{number_of, side_of, port_period, period_at}
use Rattle.irt_base.specs.declared.limits.TheConstants.{PHASES}
use Rattle.irt_base.specs.declared.blocks.Assignment.{Assignment}
use Rattle.irt_base.specs.declared.blocks.Bundle.{Bundle}
use Rattle.irt_base.specs.declared.blocks.Entry.{Entry}
use Rattle.irt_base.specs.declared.blocks.Period.{Period}
use Rattle.irt_base.specs.declared.blocks.PhasePair.{PhasePair}
use Rattle.irt_base.specs.declared.blocks.PortPeriods.{PortPeriods}
use Rattle.irt_base.specs.declared.blocks.Side.{Side}
use Rattle.irt_base.specs.declared.blocks.Side.TheVariants.{Tx, Rx}
use Rattle.irt_base.specs.declared.plants.Plant.{Plant}
use Rattle.irt_route.specs.Routes.{RouteTables}
use Rattle.plan_rules.specs.Frames.{IsSentInRed, IsReceivedInRed, IsForwarded}
use Rattle.plan_rules.specs.Periods.{KeepsRedLimit, HasOrange, KeepsOrder}
use Rattle.plan_rules.specs.SendWindow.{SendWindow, slack_time}
use Rattle.plan_rules.specs.declared.place.Place.{Place}
use Rattle.fit_rules.specs.declared.frame_plan.FramePlan.{FramePlan}
use Rattle.fit_rules.specs.Shape.{alone}
use Rattle.fit_rules.specs.Fit.{IsUsing, end_time}
use Rattle.fit_rules.specs.Blocks.{IsGreatest, IsSentEnd, IsReceivedEnd, IsTxPeriod, IsRxPeriod, ArePortPeriods}
use Rattle.fit_rules.proofs.Entries.{entry_from}
use Rattle.fit_rules.proofs.Finding.{bound}
use Rattle.fit_rules.proofs.FrameRules.{red_ends}
use Rattle.fit_rules.proofs.Links.{mapped, hop_fits}
use Rattle.fit_rules.proofs.Merged.{IsWhole, shaped, held_at, sent_alone, forwarded_alone}

-- a port's period comes from the assignment that the phase's pair names
pub record IsNamedPeriod (p : PortPeriods) (k : ℕ) (side : Side) (x : Period) : Type 0 where
  pub pair : PhasePair
  pub periods : Assignment
  pub there : slice_get p.phases (k % PHASES) ≡ Some pair
  pub named : slice_get p.assignments (number_of side pair) ≡ Some periods
  pub is : side_of side periods ≡ x

named_period : (p : PortPeriods) (k : ℕ) (side : Side) (x : Period) → port_period p k side ≡ Some x → IsNamedPeriod p k side x
named_period p k side x is =
    let (pair, there, by) = bound (λ (q : PhasePair). option_map (side_of side) (slice_get p.assignments (number_of side q))) (slice_get p.phases (k % PHASES)) x is in
    let (a, named, same) = mapped (side_of side) (slice_get p.assignments (number_of side pair)) x by in
    record { pair = pair; periods = a; there = there; named = named; is = same }

-- the periods of a port, where one is asked for
record IsPortAsked (plant : Plant) (plans : List FramePlan) (device port k : ℕ) (side : Side) (x : Period) : Type 0 where
  p : PortPeriods
  are : ArePortPeriods plant plans device port p
  is : IsNamedPeriod p k side x

-- a greatest number has what all have, and what 0 has
greatest_keeps : (Holds P : ℕ → Type 0) (most : ℕ) → IsGreatest Holds most → ((x : ℕ) → Holds x → P x) → P 0 → P most
greatest_keeps Holds P most is each none = elim is.some [
  | inl some ↦ each most some
  | inr (zero_is, off) ↦ subst P (sym zero_is) none
]

module _ (plant : Plant) (routes : RouteTables) (plans : List FramePlan) (bundles : List Bundle) (whole : IsWhole plant routes plans bundles) where
  port_asked : (device port k : ℕ) (side : Side) (b : Bundle) (x : Period) → slice_get bundles device ≡ Some b → 1 ≤ port →
      period_at b.periods port k side ≡ Some x → IsPortAsked plant plans device port k side x
  port_asked device port k side b x held one is =
      let own = (held_at plant plans bundles whole.blocks device b held).is in
      let (p, at, by) = bound (λ (q : PortPeriods). port_period q k side) (slice_get b.periods.ports (port - 1)) x is in
      let number : (port - 1) + 1 ≡ port = omega arith in
      record {
        p = p;
        are = subst (λ n. ArePortPeriods plant plans device n p) number (own.periods.ports (port - 1) p at);
        is = named_period p k side x by;
      }

  pub tx_period : (device port k : ℕ) (b : Bundle) (x : Period) → slice_get bundles device ≡ Some b → 1 ≤ port → k < PHASES →
      period_at b.periods port k Tx ≡ Some x → IsTxPeriod plant plans device port k x
  tx_period device port k b x held one small is =
      let asked = port_asked device port k Tx b x held one is in
      let same : k % PHASES ≡ k = omega arith in
      let phase = asked.are.each (k % PHASES) asked.is.pair asked.is.there in
      let periods : phase.periods ≡ asked.is.periods = same_Some phase.periods asked.is.periods (sym phase.named ∙ asked.is.named) in
      subst (λ n. IsTxPeriod plant plans device port n x) same
      (subst (IsTxPeriod plant plans device port (k % PHASES)) (ap (λ (a : Assignment). a.tx) periods ∙ asked.is.is) phase.tx)

  pub rx_period : (device port k : ℕ) (b : Bundle) (x : Period) → slice_get bundles device ≡ Some b → 1 ≤ port → k < PHASES →
      period_at b.periods port k Rx ≡ Some x → IsRxPeriod plant plans device port k x
  rx_period device port k b x held one small is =
      let asked = port_asked device port k Rx b x held one is in
      let same : k % PHASES ≡ k = omega arith in
      let phase = asked.are.each (k % PHASES) asked.is.pair asked.is.there in
      let periods : phase.periods ≡ asked.is.periods = same_Some phase.periods asked.is.periods
      (sym phase.named ∙ ap (slice_get asked.p.assignments) (sym phase.one) ∙ asked.is.named) in
      subst (λ n. IsRxPeriod plant plans device port n x) same
      (subst (IsRxPeriod plant plans device port (k % PHASES)) (ap (λ (a : Assignment). a.rx) periods ∙ asked.is.is) phase.rx)

  -- V7
  pub sent_holds : (at : Place) → IsSentInRed plant bundles at
  sent_holds at e w b phase tx sending held small due is =
      let own = sent_alone plant routes plans bundles whole at.device.0 at.port at.frame e w sending in
      let period = tx_period at.device.0 at.port phase b tx held sending.leaves.from_one small is in
      let sent : IsSentEnd plant plans at.device.0 at.port phase (end_time plant at.device.0 e w) =
      record { plan = own.plan; e = e; w = w; placed = own.placed; sends = own.sends; due = due; is = refl } in
      (omega (arith, period.red), period.orange.bound (end_time plant at.device.0 e w) sent)

  -- V8
  pub received_holds : (at : Place) → IsReceivedInRed plant bundles at
  received_holds at e hop w b phase rx comes port held small due is =
      let own = forwarded_alone plant routes plans bundles whole at.device.0 at.frame e hop w comes in
      let one : 1 ≤ at.port = subst (λ n. 1 ≤ n) port comes.comes.received in
      let period = rx_period at.device.0 at.port phase b rx held one small is in
      let end = w.hi + hop + wire_time e.data_length + guard_time plant.window in
      let received : IsReceivedEnd plant plans at.device.0 at.port phase end =
      record { plan = own.plan; e = e; hop = hop; w = w; placed = own.placed; comes = own.comes; here = port; due = due; is = refl } in
      (omega (arith, period.red), period.orange.bound end received)

  pub tx_within : (device port k : ℕ) (tx : Period) → IsTxPeriod plant plans device port k tx → tx.orange ≤ plant.red_max
  tx_within device port k tx period =
      greatest_keeps (IsSentEnd plant plans device port k) (λ n. n ≤ plant.red_max) tx.orange period.orange
      (λ x sent. subst (λ n. n ≤ plant.red_max) (sym sent.is)
      (red_ends plant routes plans bundles whole sent.plan sent.placed device port sent.e sent.w sent.sends)) (omega arith)

  -- a frame that arrives is off the receiver's wire, a guard later, within the cycle
  received_within : (plan : FramePlan) → Contains plans plan → (device : ℕ) (e : Entry) (hop : ℕ) (w : SendWindow) → IsForwarded (alone plant plan) device plan.frame.0 e hop w →
      w.hi + hop + wire_time e.data_length + guard_time plant.window ≤ cycle_time plant.factor
  received_within plan placed device e hop w comes =
      let from = comes.comes.sent.0 in
      let sending : IsUsing plant plan comes.parent comes.port from w = record { stands = comes.comes.sent.1; leaves = comes.comes.sent.2; sends = comes.sends } in
      let ends : w.hi + wire_time from.data_length + slack_time plant.window comes.parent w.anchor ≤ plant.red_max =
      red_ends plant routes plans bundles whole plan placed comes.parent comes.port from w sending in
      let s = shaped plant routes plans bundles whole plan placed in
      let first = s.shape.each comes.parent from (entry_from plant plan.entries comes.parent plan.frame.0 from comes.comes.sent.1) in
      let second = s.shape.each device e (entry_from plant plan.entries device plan.frame.0 e comes.stands) in
      summed w.hi (wire_time from.data_length) (wire_time e.data_length) _ plant.red_max hop (guard_time plant.window) (cycle_time plant.factor)
      (ap wire_time (second.length ∙ sym first.length)) ends (hop_fits plant whole.are.rules comes.parent comes.port hop comes.hops)
    where
      summed : (hi wire also slack limit hop guard cycle : ℕ) → also ≡ wire → hi + wire + slack ≤ limit → limit + hop + guard ≤ cycle → hi + hop + also + guard ≤ cycle
      summed hi wire also slack limit hop guard cycle same ends fits = omega arith

  pub rx_within : (device port k : ℕ) (rx : Period) → IsRxPeriod plant plans device port k rx → rx.orange ≤ cycle_time plant.factor
  rx_within device port k rx period =
      greatest_keeps (IsReceivedEnd plant plans device port k) (λ n. n ≤ cycle_time plant.factor) rx.orange period.orange
      (λ x got. subst (λ n. n ≤ cycle_time plant.factor) (sym got.is)
      (received_within got.plan got.placed device got.e got.hop got.w got.comes)) (omega arith)

  -- V10
  pub limit_holds : (at : Place) → KeepsRedLimit plant bundles at
  limit_holds at phase tx rx has =
      tx_within at.device.0 at.port phase tx
      (tx_period at.device.0 at.port phase has.bundle tx has.held has.from_one has.among has.sends)

  -- V13
  pub orange_holds : (at : Place) → HasOrange plant bundles at
  orange_holds at phase tx rx has =
      (tx_period at.device.0 at.port phase has.bundle tx has.held has.from_one has.among has.sends).green

  -- V14
  pub order_holds : (at : Place) → KeepsOrder plant bundles at
  order_holds at phase tx rx has =
      let first = tx_period at.device.0 at.port phase has.bundle tx has.held has.from_one has.among has.sends in
      let second = rx_period at.device.0 at.port phase has.bundle rx has.held has.from_one has.among has.receives in
      let limit = tx_within at.device.0 at.port phase tx first in
      let cycle = rx_within at.device.0 at.port phase rx second in record {
        sending = record { red = omega (arith, first.red); orange = omega (arith, first.green) };
        guard = summed tx.green tx.orange plant.orange plant.red_max (guard_time plant.window) (cycle_time plant.factor) first.green limit whole.are.rules.periods;
        receiving = record { red = omega (arith, second.red); orange = omega (arith, second.green) };
        cycle = subst (λ n. n ≤ cycle_time plant.factor) (sym second.green) cycle;
      }
    where
      summed : (green orange long limit guard cycle : ℕ) → green ≡ orange + long → orange ≤ limit → limit + long + guard ≤ cycle → green + guard ≤ cycle
      summed green orange long limit guard cycle is within fits = omega arith
