-- V15 by the clock tree.
use Rattle.std.proofs.Common.{◌≡◌, ◌<◌, ◌≤◌, ◌==◌, inl, inr, ℕ, false, List, [], length, Some, refl, sym, ◌∙◌, subst, ap, arith}
use Rattle.std.proofs.lemmas.Bool.{cases_lt, cases_eq, ne_eqb}
use Rattle.std.proofs.lemmas.Option.{slice_get_cases, slice_get_within}
use Rattle.std.specs.List.{slice_get}
use Rattle.irt_base.specs.Cycle.{budget_time}
use Rattle.irt_base.specs.declared.limits.TheConstants.{MAX_SEND, MAX_TIMEOUT}
use Rattle.irt_base.specs.declared.blocks.Bundle.{Bundle}
use Rattle.irt_base.specs.declared.numbers.DevId.{DevId}
use Rattle.irt_base.specs.declared.plants.Clocks.TheVariants.{Ptcp}
use Rattle.irt_base.specs.declared.plants.Plant.{Plant}
use Rattle.irt_base.specs.declared.plants.SyncPlan.{SyncPlan}
use Rattle.plant_rules.specs.Clocks.{IsDistance}
use Rattle.plant_rules.specs.Meets.{MeetsRules}
use Rattle.irt_route.specs.Clocks.{ClockTable, IsClockTreeOf, IsClockFault, hops_in, clock_budget}
use Rattle.irt_route.specs.declared.fault.ClockFault.{ClockFault}
use Rattle.irt_route.specs.declared.fault.ClockFault.TheVariants.{NoClock}
use Rattle.irt_route.proofs.Distances.{ports_of_links}
use Rattle.plan_rules.specs.Headers.{RepeatsPlant, KeepsClock}
use Rattle.plan_rules.specs.Places.{IsLess, IsLeastBreak, place_of}
use Rattle.plan_rules.specs.Plan.{IsPlan}
use Rattle.plan_rules.specs.declared.place.Place.{Place}
use Rattle.plan_check.specs.Late.{IsLate}

some_at : {X : Type 0} (xs : List X) (i : ℕ) → i < length xs → (x : X) × (slice_get xs i ≡ Some x)
some_at xs i there = elim (slice_get_cases xs i).1 [
  | inl has ↦ (has.0, has.2)
  | inr past ↦ absurd (omega (arith, past.0))
]

-- V1 bounds the numbers of cycles
pub cycles_fit : (plant : Plant) (bundles : List Bundle) (device : ℕ) (b : Bundle) → IsPlan plant bundles
    → ((at : Place) → RepeatsPlant plant bundles at) → slice_get bundles device ≡ Some b → (b.sync.send ≤ MAX_SEND) × (b.sync.timeout ≤ MAX_TIMEOUT)
cycles_fit plant bundles device b plan headers is =
    let there : device < length bundles = slice_get_within bundles device b is in
    let own = some_at plant.devices device (omega (arith, plan.count, there)) in
    let first = some_at bundles 0 (omega (arith, there)) in
    let header = headers (place_of device 0 0) own.0 first.0 b own.1 first.1 is in
    (header.send.1, header.timeout.1)

budget_of : (tree : ClockTable) (sync : SyncPlan) (device send timeout : ℕ) → 1 ≤ device
    → clock_budget tree sync device send timeout ≡ budget_time (hops_in tree device) sync.stamp sync.drift send timeout
budget_of tree sync device send timeout above =
    let other : (device == 0) ≡ false = ne_eqb device 0 (λ is. omega arith) in
    rw other refl

same_distance : (plant : Plant) (device m n : ℕ) → IsDistance plant device m → IsDistance plant device n → m ≡ n
same_distance plant device m n one two = omega (arith, one.shortest n two.walk, two.shortest m one.walk)

module _ (plant : Plant) (bundles : List Bundle) (tree : ClockTable) (plan : IsPlan plant bundles) (of : IsClockTreeOf plant tree) where
  late_breaks : (device : ℕ) → plant.clocks ≡ Ptcp → IsLate plant bundles tree device → ¬ KeepsClock plant bundles (place_of device 0 0)
  late_breaks device ptcp late keeps = elim (cases_eq device 0) [
    | inl root ↦
        let none : clock_budget tree plant.sync device late.first.sync.send late.own.sync.timeout ≡ 0 = rw root refl in
        omega (arith, late.over, none)
    | inr other ↦
        let there : device < length plant.devices = omega (arith, plan.count, slice_get_within bundles device late.own late.stands) in
        let above : 1 ≤ device = omega arith in
        let within = keeps late.first late.own (hops_in tree device) ptcp above late.starts late.stands (of.distance device there) in
        omega (arith, within, late.over, budget_of tree plant.sync device late.first.sync.send late.own.sync.timeout above)
  ]

  in_time : (at : Place) → ¬ IsLate plant bundles tree at.device.0 → KeepsClock plant bundles at
  in_time at not_late first b hops ptcp above starts stands distance =
      let there : at.device.0 < length plant.devices = omega (arith, plan.count, slice_get_within bundles at.device.0 b stands) in
      let same : hops ≡ hops_in tree at.device.0 = same_distance plant at.device.0 hops (hops_in tree at.device.0) distance (of.distance at.device.0 there) in
      let far : budget_time hops plant.sync.stamp plant.sync.drift first.sync.send b.sync.timeout
      ≡ clock_budget tree plant.sync at.device.0 first.sync.send b.sync.timeout =
      ap (λ n. budget_time n plant.sync.stamp plant.sync.drift first.sync.send b.sync.timeout) same
      ∙ sym (budget_of tree plant.sync at.device.0 first.sync.send b.sync.timeout above) in
      elim (cases_lt plant.window (clock_budget tree plant.sync at.device.0 first.sync.send b.sync.timeout)) [
        | inl over ↦ absurd (not_late (record { first = first; own = b; starts = starts; stands = stands; over = over }))
        | inr within ↦ subst (λ (n : ℕ). n ≤ plant.window) (sym far) within
      ]

  pub first_late : (device : ℕ) → plant.clocks ≡ Ptcp → ((n : ℕ) → n < device → ¬ IsLate plant bundles tree n) → IsLate plant bundles tree device
      → IsLeastBreak (KeepsClock plant bundles) (place_of device 0 0)
  first_late device ptcp before late = record {
    breaks = late_breaks device ptcp late;
    least = λ at less. in_time at (before at.device.0 (lesser at device less));
  }
    where
      lesser : (at : Place) (device : ℕ) → IsLess at (place_of device 0 0) → at.device.0 < device
      lesser at device less = grind arith

  pub none_late : (n : ℕ) → length bundles ≤ n → ((i : ℕ) → i < n → ¬ IsLate plant bundles tree i) → (at : Place) → KeepsClock plant bundles at
  none_late n past before at = in_time at (λ late. before at.device.0 (omega (arith, slice_get_within bundles at.device.0 late.own late.stands)) late)

-- under the plant's rules every device has a clock
pub has_clock : (plant : Plant) (fault : ClockFault) (device : DevId) → MeetsRules plant → plant.clocks ≡ Ptcp → fault ≡ NoClock device
    → IsClockFault plant fault → ⊥
has_clock plant fault device rules ptcp is refuses =
    let cut = subst (λ (f : ClockFault). IsClockFault plant f) is refuses in
    elim (cases_eq device.0 0) [
      | inl root ↦ cut.apart [] (sym root)
      | inr other ↦
          let clock = rules.clocks ptcp device.0 (omega arith) cut.there in
          let walk = ports_of_links plant clock.hops device.0 rules clock.distance.walk in
          cut.apart walk.0 walk.1
    ]
