-- The begins of orange, port by port and device by device.
use Rattle.std.proofs.Common.{◌≡◌, inl, inr, ℕ, ◌+◌, ◌-◌, ◌<◌, ◌≤◌, ◌%◌, List, Some, All, length, slice_get, option_map, option_and_then, refl, sym, ◌∙◌, ap, subst, arith}
use Rattle.std.proofs.lemmas.Bool.{cases_lt}
use Rattle.std.proofs.lemmas.Option.{none-some, same_Some, slice_get_within, slice_get_past}
use Rattle.irt_base.specs.Periods.{number_of, side_of, port_period, period_at}
use Rattle.irt_base.specs.Valid.{IsBundle, IsPeriodBlock, IsPortPeriods, IsPhasePair}
use Rattle.irt_base.specs.declared.limits.TheConstants.{PHASES}
use Rattle.irt_base.specs.declared.blocks.Bundle.{Bundle}
use Rattle.irt_base.specs.declared.blocks.Period.{Period}
use Rattle.irt_base.specs.declared.blocks.PeriodBlock.{PeriodBlock}
use Rattle.irt_base.specs.declared.blocks.PhasePair.{PhasePair}
use Rattle.irt_base.specs.declared.blocks.PortPeriods.{PortPeriods}
use Rattle.irt_base.specs.declared.blocks.Side.{Side}
use Rattle.irt_base.specs.declared.blocks.Side.TheVariants.{Tx, Rx}
use Rattle.irt_window.proofs.Places.{each_bundle}
use Rattle.fit_rules.proofs.Lists.{each_at, some_at}
use Rattle.fit_rules.specs.Blocks.{IsGreatest}
use Rattle.fit_rules.specs.Printed.{IsOrangeBegin, IsRedEnd}
use Rattle.plan_schedule.specs.Greatest.{IsAnyBelow, IsPhaseBegin, IsPortBegin, IsBlockBegin, IsDeviceBegin}
use Rattle.plan_schedule.proofs.GreatestLemmas.{greatest_as}

-- the begin of a phase is one
pub phase_begin : (block : PeriodBlock) (port phase : ℕ) (tx : Period) → period_at block port phase Tx ≡ Some tx → IsGreatest (IsPhaseBegin block port phase) tx.orange
phase_begin block port phase tx is = record {
  bound = λ x begin. omega (arith, begin.2, ap (λ (p : Period). p.orange) (same_Some begin.0 tx (sym begin.1 ∙ is)));
  some = inl (tx, is, refl);
}

-- a port that has a period is one of the block's
port_there : (block : PeriodBlock) (port phase : ℕ) (side : Side) (p : Period) → period_at block port phase side ≡ Some p → port - 1 < length block.ports
port_there block port phase side p is = elim (cases_lt (port - 1) (length block.ports)) [
  | inl inside ↦ inside
  | inr past ↦
      absurd (none-some p (sym (ap (option_and_then (λ (x : PortPeriods). port_period x phase side)) (slice_get_past block.ports (port - 1) past)) ∙ is))
]

-- ports count from 1
pub block_begins : (block : PeriodBlock) (count end : ℕ) → length block.ports ≤ count →
    IsGreatest (IsAnyBelow (λ n begin. IsPortBegin block (n + 1) begin) count) end → IsGreatest (IsBlockBegin block) end
block_begins block count end all greatest =
    greatest_as (IsAnyBelow (λ n begin. IsPortBegin block (n + 1) begin) count) (IsBlockBegin block) end
    (λ x any. (any.0 + 1, omega arith, any.2))
    (λ x some.
    let same : some.0 - 1 + 1 ≡ some.0 = omega (arith, some.1) in
    let inside = port_there block some.0 some.2.0 Tx some.2.2.0 some.2.2.1 in
    (some.0 - 1, omega arith, subst (λ n. IsPortBegin block n x) (sym same) some.2))
    greatest

-- a port that has a sending period in a phase has a receiving one
number_below : (n : ℕ) (pair : PhasePair) (side : Side) → IsPhasePair n pair → number_of side pair < n
number_below n pair Tx is = is.tx
number_below n pair Rx is = is.rx

port_side : (p : PortPeriods) (k : ℕ) (side : Side) → IsPortPeriods p → (x : Period) × (port_period p k side ≡ Some x)
port_side p k side valid =
    let (pair, at) = some_at p.phases (k % PHASES) (omega (arith, valid.sixteen)) in
    let (a, named) = some_at p.assignments (number_of side pair)
    (number_below (length p.assignments) pair side (each_at (IsPhasePair (length p.assignments)) p.phases (k % PHASES) pair valid.phases at)) in (
      side_of side a,
      ap (option_and_then (λ (x : PhasePair). option_map (side_of side) (slice_get p.assignments (number_of side x)))) at ∙ ap (option_map (side_of side)) named,
    )

block_side : (block : PeriodBlock) (port k : ℕ) (side : Side) → IsPeriodBlock block → port - 1 < length block.ports → (x : Period) × (period_at block port k side ≡ Some x)
block_side block port k side valid inside =
    let (p, at) = some_at block.ports (port - 1) inside in
    let (x, is) = port_side p k side (each_at IsPortPeriods block.ports (port - 1) p valid.ports at) in
    (x, ap (option_and_then (λ (y : PortPeriods). port_period y k side)) at ∙ is)

-- the begins of all devices
pub plan_begins : (bundles : List Bundle) (count end : ℕ) → All IsBundle bundles → length bundles ≤ count →
    IsGreatest (IsAnyBelow (IsDeviceBegin bundles) count) end → IsRedEnd bundles end
plan_begins bundles count end valid all greatest =
    greatest_as (IsAnyBelow (IsDeviceBegin bundles) count) (IsOrangeBegin bundles) end
    (λ x any. there x any.0 any.2.0 any.2.1 any.2.2)
    (λ x begin. (
      begin.device,
      omega (arith, slice_get_within bundles begin.device begin.periods.bundle begin.periods.held),
      (begin.periods.bundle, begin.periods.held, (begin.port, begin.periods.from_one, (begin.phase, begin.periods.among, (begin.tx, begin.periods.sends, begin.is)))),
    ))
    greatest
  where
    there : (x device : ℕ) (b : Bundle) → slice_get bundles device ≡ Some b → IsBlockBegin b.periods x → IsOrangeBegin bundles x
    there x device b held some =
        let port = some.0 in
        let phase = some.2.0 in
        let tx = some.2.2.0 in
        let (rx, receives) = block_side b.periods port phase Rx (each_bundle IsBundle bundles device b valid held).periods
        (port_there b.periods port phase Tx tx some.2.2.1) in
        record {
          device = device;
          port = port;
          phase = phase;
          tx = tx;
          rx = rx;
          periods = record { bundle = b; held = held; from_one = some.1; among = some.2.1; sends = some.2.2.1; receives = receives };
          is = some.2.2.2;
        }

-- the begins of a device that has this bundle
pub device_begins : (bundles : List Bundle) (device end : ℕ) (b : Bundle) → slice_get bundles device ≡ Some b → IsGreatest (IsBlockBegin b.periods) end →
    IsGreatest (IsDeviceBegin bundles device) end
device_begins bundles device end b held greatest =
    greatest_as (IsBlockBegin b.periods) (IsDeviceBegin bundles device) end
    (λ x begin. (b, held, begin))
    (λ x any. subst (λ (d : Bundle). IsBlockBegin d.periods x) (same_Some any.0 b (sym any.1 ∙ held)) any.2)
    greatest
