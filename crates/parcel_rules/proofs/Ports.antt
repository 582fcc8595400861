-- The ports of a plant: each stands once in the list, and they count from 1.
use Rattle.std.proofs.Common.{◌≡◌, ℕ, ◌<◌, ◌≤◌, length, arith, All, AllPairs}
use Rattle.std.specs.List.{range_with_len, enumerate_from}
use Rattle.std.proofs.lemmas.List.Elements.{All-map}
use Rattle.irt_base.specs.declared.plants.Device.{Device}
use Rattle.irt_base.specs.declared.plants.Plant.{Plant}
use Rattle.parcel_rules.specs.Steps.{Step}
use Rattle.parcel_rules.specs.Cycle.{ports_at, all_ports}
use Rattle.parcel_rules.proofs.Lists.{All-flat_map, range_from, AllPairs-map, AllPairs-weaker, AllPairs-flat_map, Across, range_rises, enumerated_rise}

abbrev pub IsFromOne : Step → Type 0
IsFromOne at = 1 ≤ at.1.0

-- not the same device and port
abbrev pub IsOther : Step → Step → Type 0
IsOther at other = at.0.0 ≡ other.0.0 → at.1.0 ≡ other.1.0 → ⊥

abbrev step_of : ℕ → ℕ → Step
step_of device port = (record { 0 = device }, record { 0 = port })

pub ports_from_one : (plant : Plant) → All IsFromOne (all_ports plant)
ports_from_one plant =
    All-flat_map IsFromOne (λ (d : ℕ × Device). Unit {0}) (λ (d : ℕ × Device). ports_at d.0 d.1) (enumerate_from 0 plant.devices) (λ k d below. tt)
    (λ d any. All-map IsFromOne (step_of d.0) (range_with_len 1 (length d.1.ports)) (range_from 1 (length d.1.ports)))

-- ports of two devices
other_devices : (d e : ℕ × Device) → d.0 < e.0 → Across IsOther (ports_at d.0 d.1) (ports_at e.0 e.1)
other_devices d e before =
    All-map (λ at. All (IsOther at) (ports_at e.0 e.1)) (step_of d.0) (range_with_len 1 (length d.1.ports)) (λ k x below.
    All-map (IsOther (step_of d.0 _)) (step_of e.0) (range_with_len 1 (length e.1.ports)) (λ j y within same port. omega arith))

pub ports_differ : (plant : Plant) → AllPairs IsOther (all_ports plant)
ports_differ plant =
    AllPairs-flat_map IsOther (λ (d e : ℕ × Device). d.0 < e.0) (λ (d : ℕ × Device). ports_at d.0 d.1) (enumerate_from 0 plant.devices)
    (enumerated_rise 0 plant.devices)
    (λ d. AllPairs-map IsOther (step_of d.0) (range_with_len 1 (length d.1.ports))
    (AllPairs-weaker (λ j k. j < k) (λ j k. IsOther (step_of d.0 j) (step_of d.0 k)) (range_with_len 1 (length d.1.ports))
    (λ j k before device port. omega arith) (range_rises 1 (length d.1.ports))))
    other_devices
