-- What a port sends lies in a stretch that is left to parcels.
use Rattle.std.proofs.Common.{◌≡◌, ℕ, ◌+◌, ◌-◌, ◌*◌, ◌%◌, ◌<◌, ◌≤◌, true, List, Some, option_map, option_and_then, inl, inr, refl, ◌∙◌, ap, subst, arith, length, slice_get, add-one}
use Rattle.std.specs.Prelude.{ℤ, pos, ◌+ℤ◌, ◌≤ℤ◌, int_le}
use Rattle.std.proofs.Math.Nat.{suc-mul}
use Rattle.std.proofs.lemmas.Bool.{and_parts}
use Rattle.std.proofs.lemmas.Int.{ints}
use Rattle.std.proofs.lemmas.Option.{slice_get_within, slice_get_cases, get_or_from_slice_get, option_and_then_some}
use Rattle.irt_base.specs.Cycle.{cycle_time, guard_time}
use Rattle.irt_base.specs.Periods.{number_of, side_of, port_period, period_at}
use Rattle.irt_base.specs.Valid.{IsPhasePair, IsPortPeriods, IsPeriodBlock, IsBundle}
use Rattle.irt_base.specs.declared.limits.TheConstants.{PHASES}
use Rattle.irt_base.specs.declared.blocks.Bundle.{Bundle}
use Rattle.irt_base.specs.declared.blocks.Period.{Period}
use Rattle.irt_base.specs.declared.blocks.PeriodBlock.{PeriodBlock}
use Rattle.irt_base.specs.declared.blocks.PhasePair.{PhasePair}
use Rattle.irt_base.specs.declared.blocks.PortPeriods.{PortPeriods}
use Rattle.irt_base.specs.declared.blocks.Side.{Side}
use Rattle.irt_base.specs.declared.blocks.Side.TheVariants.{Tx, Rx}
use Rattle.irt_base.specs.declared.plants.Class.{Class}
use Rattle.irt_base.specs.declared.plants.Class.TheVariants.{Orange, Green}
use Rattle.irt_base.specs.declared.plants.Plant.{Plant}
use Rattle.plan_rules.specs.Headers.{IsHeader}
use Rattle.plan_rules.specs.Periods.{IsOrdered, AreOrdered}
use Rattle.plan_rules.specs.Plan.{IsPlan}
use Rattle.plan_rules.specs.Places.{IsAccepted, place_of}
use Rattle.plan_rules.specs.World.{WorldRow, IsWithinWindow, is_within_window, is_in_step}
use Rattle.period_gate.specs.declared.parcels.Sent.{Sent}
use Rattle.period_gate.specs.Gate.{begin_of}
use Rattle.period_gate.specs.SentList.{IsTimed}
use Rattle.irt_switch.specs.Begin.{parcel_limit}
use Rattle.cycle_rows.specs.Parcels.{IsFreeIn}
use Rattle.parcel_rules.specs.Steps.{Step}
use Rattle.parcel_rules.specs.Rows.{true_time}
use Rattle.parcel_rules.proofs.Lists.{each_at}

-- ---- periods

-- a port that has a sending period in a cycle has a receiving one
pair_period : (p : PortPeriods) (pair : PhasePair) → IsPhasePair (length p.assignments) pair →
    (rx : Period) × (option_map (side_of Rx) (slice_get p.assignments (number_of Rx pair)) ≡ Some rx)
pair_period p pair is =
    elim (slice_get_cases p.assignments pair.rx).1 [
      | inl (a, within, at, same) ↦ (a.rx, ap (option_map (side_of Rx)) at)
      | inr (past, none) ↦ absurd (let below = is.rx in omega arith)
    ]

port_receives : (p : PortPeriods) (k : ℕ) (tx : Period) → IsPortPeriods p → port_period p k Tx ≡ Some tx → (rx : Period) × (port_period p k Rx ≡ Some rx)
port_receives p k tx valid is =
    option_and_then_some (λ (x : PhasePair). option_map (side_of Tx) (slice_get p.assignments (number_of Tx x))) (slice_get p.phases (k % PHASES)) tx is
    (λ pair there at.
    let (rx, same) = pair_period p pair (each_at (IsPhasePair (length p.assignments)) p.phases (k % PHASES) pair valid.phases there) in
    (rx, ap (option_and_then (λ (x : PhasePair). option_map (side_of Rx) (slice_get p.assignments (number_of Rx x)))) there ∙ same))

receives_too : (block : PeriodBlock) (port k : ℕ) (tx : Period) → IsPeriodBlock block → period_at block port k Tx ≡ Some tx →
    (rx : Period) × (period_at block port k Rx ≡ Some rx)
receives_too block port k tx valid is =
    option_and_then_some (λ (x : PortPeriods). port_period x k Tx) (slice_get block.ports (port - 1)) tx is
    (λ p there at.
    let (rx, same) = port_receives p k tx (each_at IsPortPeriods block.ports (port - 1) p valid.ports there) at in
    (rx, ap (option_and_then (λ (x : PortPeriods). port_period x k Rx)) there ∙ same))

phase_period : (block : PeriodBlock) (port k : ℕ) (side : Side) → period_at block port (k % PHASES) side ≡ period_at block port k side
phase_period block port k side =
    let same : (k % PHASES) % PHASES ≡ k % PHASES = omega arith in
    ap (λ n. option_and_then (λ (y : PortPeriods).
    option_and_then (λ (x : PhasePair). option_map (side_of side) (slice_get y.assignments (number_of side x))) (slice_get y.phases n)) (slice_get block.ports (port - 1))) same

-- ---- times

-- all that a parcel's times keep, in plain numbers
ends_early : (k time guard end : ℕ) → 0 < end → end ≤ time - guard → k * time + end + guard ≤ (k + 1) * time
ends_early k time guard end some early =
    let next : (k + 1) * time ≡ k * time + time = ap (λ n. n * time) (add-one k) ∙ suc-mul k time in
    omega arith

opens_at : (base orange start : ℕ) (error : ℤ) → orange ≤ start → (pos (base + orange) +ℤ error) ≤ℤ (pos (base + start) +ℤ error)
opens_at base orange start error after = omega (arith, ints)

closes_at : (base end guard limit : ℕ) (error : ℤ) → base + end + guard ≤ limit → ((pos (base + end) +ℤ error) +ℤ pos guard) ≤ℤ (pos limit +ℤ error)
closes_at base end guard limit error before = omega (arith, ints)

in_step_is : (error window : ℤ) → is_within_window error window ≡ true → IsWithinWindow error window
in_step_is error window is =
    let (early, late) = and_parts (int_le (pos 0) (error +ℤ window)) (int_le error window) is in
    record { early = grind (arith, ints); late = grind (arith, ints) }

-- a port that sends in a cycle
pub record IsReady (plant : Plant) (bundles : List Bundle) (row : WorldRow) (k : ℕ) (at : Step) (b : Bundle) (tx : Period) : Type 0 where
  pub in_step : is_in_step plant row at.0.0 ≡ true
  pub held : slice_get bundles at.0.0 ≡ Some b
  pub sending : period_at b.periods at.1.0 k Tx ≡ Some tx

-- ---- the blocks of an accepted plan

module _ (plant : Plant) (bundles : List Bundle) (plan : IsPlan plant bundles) (accepted : IsAccepted plant bundles) where
  some_at : {A : Type 0} (xs : List A) (k : ℕ) → k < length xs → (x : A) × (slice_get xs k ≡ Some x)
  some_at xs k below =
      elim (slice_get_cases xs k).1 [
        | inl (x, within, is, same) ↦ (x, is)
        | inr (past, none) ↦ absurd (omega arith)
      ]

  -- they repeat the plant's window and factor
  header_of : (device : ℕ) (b : Bundle) → slice_get bundles device ≡ Some b → (b.sync.window ≡ plant.window) × (b.sync.factor ≡ plant.factor)
  header_of device b held =
      let (d, is_device) = some_at plant.devices device (omega (arith, slice_get_within bundles device b held, plan.count)) in
      let (first, at_first) = some_at bundles 0 (omega (arith, slice_get_within bundles device b held)) in
      let header : IsHeader plant d first b = accepted 1 (place_of device 0 0) d first b is_device at_first held in
      (header.window, header.factor)

  valid_of : (device : ℕ) (b : Bundle) → slice_get bundles device ≡ Some b → IsBundle b
  valid_of device b held = subst IsBundle (get_or_from_slice_get bundles device b b held) (plan.blocks device b (slice_get_within bundles device b held))

  -- orange begins no later than green
  ordered_of : (device port k : ℕ) (b : Bundle) (tx : Period) → slice_get bundles device ≡ Some b → 1 ≤ port → period_at b.periods port k Tx ≡ Some tx →
      IsOrdered tx
  ordered_of device port k b tx held from_one sending =
      let valid = valid_of device b held in
      let (rx, receiving) = receives_too b.periods port k tx valid.periods sending in
      let both : AreOrdered plant tx rx = accepted 14 (place_of device port 0) (k % PHASES) tx rx (record {
        bundle = b;
        held = held;
        from_one = from_one;
        among = omega arith;
        sends = phase_period b.periods port k Tx ∙ sending;
        receives = phase_period b.periods port k Rx ∙ receiving;
      }) in
      both.sending

  orange_first : (kind : Class) (tx : Period) → IsOrdered tx → tx.orange ≤ begin_of kind tx
  orange_first Orange tx ordered = omega arith
  orange_first Green tx ordered = ordered.orange

  pub sent_free : (world : List WorldRow) (row : WorldRow) (k : ℕ) (at : Step) (b : Bundle) (tx : Period) (one : Sent) → slice_get world k ≡ Some row →
      1 ≤ at.1.0 → IsReady plant bundles row k at b tx → IsTimed tx (parcel_limit b.sync) one →
      IsFreeIn plant bundles world k at.0.0 at.1.0 (true_time plant row k at.0.0 one.start) (true_time plant row k at.0.0 one.end)
  sent_free world row k at b tx one in_cycle from_one ready timed =
      let (window, factor) = header_of at.0.0 b ready.held in
      let first = orange_first one.«class» tx (ordered_of at.0.0 at.1.0 k b tx ready.held from_one ready.sending) in
      let opens = timed.opens in
      let rises = timed.rises in
      let limit : parcel_limit b.sync ≡ cycle_time plant.factor - guard_time plant.window = λ i. cycle_time (factor i) - guard_time (window i) in
      let early : one.end ≤ cycle_time plant.factor - guard_time plant.window = subst (λ n. one.end ≤ n) limit timed.closes in
      record {
        free = record {
          cycle = k;
          row = row;
          bundle = b;
          tx = tx;
          in_cycle = in_cycle;
          in_step = in_step_is (row.error at.0.0) (pos plant.window) ready.in_step;
          held = ready.held;
          sends = ready.sending;
          opens = opens_at (k * cycle_time plant.factor) tx.orange one.start (row.error at.0.0) (omega arith);
          closes = closes_at (k * cycle_time plant.factor) one.end (guard_time plant.window) ((k + 1) * cycle_time plant.factor) (row.error at.0.0)
              (ends_early k (cycle_time plant.factor) (guard_time plant.window) one.end (omega arith) early);
        };
        cycle = refl;
      }
