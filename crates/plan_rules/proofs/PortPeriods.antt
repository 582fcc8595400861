-- A linked port has its periods in each cycle, and they are in order.
use Rattle.std.proofs.Common.{◌≡◌, ℕ, ◌-◌, ◌%◌, ◌<◌, true, false, List, Some, sym, ◌∙◌, ap, ap₂, arith, length, slice_get, option_map, option_and_then, inl, inr, leb}
use Rattle.std.specs.Option.{option_map_or}
use Rattle.std.proofs.lemmas.Bool.{and_parts, or_cases, leb-true}
use Rattle.irt_base.specs.Periods.{number_of, side_of, port_period, period_at}
use Rattle.irt_base.specs.Valid.{IsWithin, IsPhasePair, IsPortPeriods, IsPeriodBlock}
use Rattle.irt_base.specs.Wiring.{begins_at, ends_at, touches, link_at, far_end, peer_of}
use Rattle.irt_base.specs.declared.limits.TheConstants.{PHASES}
use Rattle.irt_base.specs.declared.blocks.Bundle.{Bundle}
use Rattle.irt_base.specs.declared.blocks.Period.{Period}
use Rattle.irt_base.specs.declared.blocks.PeriodBlock.{PeriodBlock}
use Rattle.irt_base.specs.declared.blocks.PhasePair.{PhasePair}
use Rattle.irt_base.specs.declared.blocks.PortPeriods.{PortPeriods}
use Rattle.irt_base.specs.declared.blocks.Side.{Side}
use Rattle.irt_base.specs.declared.blocks.Side.TheVariants.{Tx, Rx}
use Rattle.irt_base.specs.declared.plants.Device.{Device}
use Rattle.irt_base.specs.declared.plants.Plant.{Plant}
use Rattle.plant_rules.specs.Words.{is_within, has_port}
use Rattle.plant_rules.specs.Meets.{HasPort, IsLink, MeetsRules}
use Rattle.plan_rules.specs.Periods.{AreOrdered}
use Rattle.plan_rules.specs.Plan.{IsPlan}
use Rattle.plan_rules.specs.Places.{IsAccepted, place_of}
use Rattle.plan_rules.proofs.Kept as kept
use Rattle.plan_rules.proofs.Wires.{begins, ends, end_of, found, mapped}
use Rattle.plan_rules.proofs.Held.{AreBlocks, each_at, some_at}

-- a port with a link is a port of its device
port_exists : (plant : Plant) → MeetsRules plant → (device port v q : ℕ) → peer_of plant device port ≡ Some (end_of v q) → HasPort plant device port
port_exists plant rules device port v q is =
    let (l, at, far) = mapped (far_end device port) (link_at plant device port) (end_of v q) is in
    let (touched, link) = found (touches device port) (IsLink plant) plant.links l rules.links at in
    elim (or_cases (begins_at device port l) (ends_at device port l) touched) [
      | inl so ↦ let (one, two) = begins device port l so in ap₂ (has_port plant) (sym one) (sym two) ∙ link.first_port
      | inr so ↦ let (one, two) = ends device port l so in ap₂ (has_port plant) (sym one) (sym two) ∙ link.second_port
    ]

port_within : (plant : Plant) (device port : ℕ) (d : Device) → HasPort plant device port → slice_get plant.devices device ≡ Some d → IsWithin 1 (length d.ports) port
port_within plant device port d has is =
    let within : is_within 1 (length d.ports) port ≡ true = sym (ap (λ o. option_map_or (λ (x : Device). is_within 1 (length x.ports) port) o false) is) ∙ has in
    let (low, high) = and_parts (leb 1 port) (leb port (length d.ports)) within in
    (leb-true 1 port low, leb-true port (length d.ports) high)

number_below : (n : ℕ) (pair : PhasePair) (side : Side) → IsPhasePair n pair → number_of side pair < n
number_below n pair Tx is = is.tx
number_below n pair Rx is = is.rx

period_of_port : (p : PortPeriods) (k : ℕ) (side : Side) → IsPortPeriods p → (x : Period) × (port_period p k side ≡ Some x)
period_of_port p k side valid =
    let (pair, at) = some_at p.phases (k % PHASES) (omega (arith, valid.sixteen)) in
    let (a, named) = some_at p.assignments (number_of side pair)
    (number_below (length p.assignments) pair side (each_at (IsPhasePair (length p.assignments)) p.phases (k % PHASES) pair valid.phases at)) in (
      side_of side a,
      ap (option_and_then (λ (x : PhasePair). option_map (side_of side) (slice_get p.assignments (number_of side x)))) at ∙ ap (option_map (side_of side)) named,
    )

period_of : (block : PeriodBlock) (port k : ℕ) (side : Side) → IsPeriodBlock block → IsWithin 1 (length block.ports) port →
    (x : Period) × (period_at block port k side ≡ Some x)
period_of block port k side valid within =
    let (p, at) = some_at block.ports (port - 1) (omega (arith, within.0, within.1)) in
    let (x, is) = period_of_port p k side (each_at IsPortPeriods block.ports (port - 1) p valid.ports at) in
    (x, ap (option_and_then (λ (y : PortPeriods). port_period y k side)) at ∙ is)

-- periods repeat after the last phase
pub period_of_phase : (block : PeriodBlock) (port k : ℕ) (side : Side) → period_at block port (k % PHASES) side ≡ period_at block port k side
period_of_phase block port k side =
    let same : (k % PHASES) % PHASES ≡ k % PHASES = omega arith in
    ap (λ n. option_and_then (λ (y : PortPeriods).
    option_and_then (λ (x : PhasePair). option_map (side_of side) (slice_get y.assignments (number_of side x))) (slice_get y.phases n)) (slice_get block.ports (port - 1))) same

-- both periods of a port in a cycle
pub record HasCycle (plant : Plant) (b : Bundle) (port k : ℕ) : Type 0 where
  pub tx : Period
  pub rx : Period
  pub sends : period_at b.periods port k Tx ≡ Some tx
  pub receives : period_at b.periods port k Rx ≡ Some rx
  pub ordered : AreOrdered plant tx rx

pub cycle_of : (plant : Plant) (bundles : List Bundle) → IsPlan plant bundles → IsAccepted plant bundles → (device port v q k : ℕ) →
    (blocks : AreBlocks plant bundles device) → peer_of plant device port ≡ Some (end_of v q) → HasCycle plant blocks.bundle port k
cycle_of plant bundles plan accepted device port v q k blocks leads =
    let (low, high) = port_within plant device port blocks.d (port_exists plant plan.rules device port v q leads) blocks.is_device in
    let within : IsWithin 1 (length blocks.bundle.periods.ports) port = (low, omega (arith, high, blocks.header.ports)) in
    let (tx, sends) = period_of blocks.bundle.periods port k Tx blocks.valid.periods within in
    let (rx, receives) = period_of blocks.bundle.periods port k Rx blocks.valid.periods within in
    record {
      tx = tx;
      rx = rx;
      sends = sends;
      receives = receives;
      ordered = kept.order plant bundles accepted (place_of device port 0) (k % PHASES) tx rx (record {
        bundle = blocks.bundle;
        held = blocks.held;
        from_one = low;
        among = omega arith;
        sends = period_of_phase blocks.bundle.periods port k Tx ∙ sends;
        receives = period_of_phase blocks.bundle.periods port k Rx ∙ receives;
      });
    }
