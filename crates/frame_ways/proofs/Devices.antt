-- Devices of a plant, and how many stops there are.
use Rattle.std.proofs.Common.{◌≡◌, ◌≢◌, ◌*◌, ◌<◌, ◌≤◌, ℕ, suc, inl, inr, true, false, true≢false, List, [], ◌∷◌, Some, length, get_or, map, eqb, refl, sym, arith}
use Rattle.std.specs.Prelude.{slice_get}
use Rattle.std.specs.List.{AllByRecursion, IsDistinct, list_any}
use Rattle.std.proofs.lemmas.Bool.{cases_Bool, or_cases, eqb-true}
use Rattle.std.proofs.lemmas.List.{length-map}
use Rattle.std.proofs.lemmas.Map.Steps.{length-le_from_distinct_below}
use Rattle.irt_base.specs.declared.plants.Device.{Device}
use Rattle.irt_base.specs.declared.plants.Plant.{Plant}
use Rattle.plant_rules.specs.Meets.{MeetsRules, IsDevice}
use Rattle.fit_rules.specs.declared.frame_plan.FramePlan.{FramePlan}
use Rattle.frame_ways.specs.declared.stops.Stop.{Stop}
use Rattle.frame_ways.specs.Stops.{IsEntryTree, StopsDiffer, AreStopsTo}
use Rattle.frame_ways.proofs.Lists.{each_at, read_within}

pub device_rules : (plant : Plant) → MeetsRules plant → (n : ℕ) (d : Device) → slice_get plant.devices n ≡ Some d → IsDevice d
device_rules plant rules n d held = each_at IsDevice plant.devices n d rules.devices held

unlike : (a b : ℕ) → a ≢ b → eqb a b ≡ false
unlike a b other = elim (cases_Bool (eqb a b)) [ inl same ↦ absurd (other (eqb-true a b same)) | inr apart ↦ apart ]

abbrev devices_of : List Stop → List ℕ
devices_of stops = map (λ (s : Stop). s.device.0) stops

all_other : (device : ℕ) (stops : List Stop) → ((k : ℕ) (d : Stop) → k < length stops → device ≢ (get_or stops k d).device.0) →
    AllByRecursion (λ y. eqb device y ≡ false) (devices_of stops)
all_other device [] other = tt
all_other device (s ∷ rest) other =
    (unlike device s.device.0 (other 0 s (omega arith)), all_other device rest (λ k d less. other (suc k) d (omega arith)))

distinct : (stops : List Stop) → StopsDiffer stops → IsDistinct eqb (devices_of stops)
unfolding IsDistinct
distinct [] apart = tt
distinct (s ∷ rest) apart = (
  all_other s.device.0 rest (λ k d less. apart 0 (suc k) d (omega arith) (omega arith)),
  distinct rest (λ i j d less within. apart (suc i) (suc j) d (omega arith) (omega arith)),
)

all_below : (stops : List Stop) (limit : ℕ) → ((n : ℕ) (s : Stop) → slice_get stops n ≡ Some s → s.device.0 < limit) → (q : ℕ) →
    list_any (eqb q) (devices_of stops) ≡ true → q < limit
all_below [] limit below q is = absurd (true≢false (sym is))
all_below (s ∷ rest) limit below q is = elim (or_cases (eqb q s.device.0) (list_any (eqb q) (devices_of rest)) is) [
  | inl here ↦ omega (arith, eqb-true q s.device.0 here, below 0 s refl)
  | inr later ↦ all_below rest limit (λ n t at. below (suc n) t at) q later
]

module _ (plant : Plant) (rules : MeetsRules plant) (base : FramePlan) (tree : IsEntryTree plant base) (stops : List Stop) (at port : ℕ)
    (are : AreStopsTo plant base stops at port) where
  -- stops stand at devices of the plant
  pub stop_within : (n : ℕ) (s : Stop) → slice_get stops n ≡ Some s → s.device.0 < length plant.devices
  stop_within n s there = omega (arith, read_within base.entries s.device.0 s.entry (are.each n s there).stands, tree.count)

  pub few_stops : length stops ≤ 64
  few_stops =
      let few = length-le_from_distinct_below (devices_of stops) 64 (distinct stops are.apart)
      (all_below stops 64 (λ n s there. omega (arith, stop_within n s there, rules.device_count.1))) in
      omega (arith, few, length-map stops (λ (s : Stop). s.device.0))

  pub small_stop : (n : ℕ) (s : Stop) → slice_get stops n ≡ Some s → n < length stops → (s.greatest ≤ 64 * 400000) × (s.hops ≤ 64)
  small_stop n s there within =
      let is = are.each n s there in
      (omega (arith, is.small, few_stops, within), omega (arith, is.few, few_stops, within))
