-- Which parcels are made in a cycle.
use Rattle.std.specs.Prelude.{ℕ, ◌*◌, ◌/◌, ◌%◌, ◌==◌, if◌then◌else◌, List, [], map, flat_map}
use Rattle.std.specs.List.{range_with_len, enumerate_from}
use Rattle.irt_base.specs.declared.numbers.DevId.{DevId}
use Rattle.irt_base.specs.declared.plants.Plant.{Plant}
use Rattle.irt_base.specs.declared.plants.Traffic.{Traffic}
use Rattle.period_gate.specs.declared.parcels.Parcel.{Parcel}
use Rattle.parcel_rules.specs.declared.handed.Handed.{Handed}

-- the parcel of an entry, by the entry's number, with a serial
abbrev pub parcel_of : ℕ → Traffic → ℕ → Parcel
parcel_of number t serial = record { traffic = number; serial = serial; length = t.length }

-- The parcels of an entry in a cycle. Serials go on from 0: with every 2 and count 3, cycle 0 has the serials 0, 1, 2,
-- cycle 1 none, and cycle 2 has 3, 4, 5.
abbrev pub made_by : ℕ → ℕ → Traffic → List Parcel
made_by k number t =
    if k % t.every == 0 then map (parcel_of number t) (range_with_len (k / t.every * t.count) t.count) else []

abbrev pub handed_to : DevId → Parcel → Handed
handed_to device parcel = record { device = device; parcel = parcel }

-- those of an entry, at its source
abbrev pub made_at_source : ℕ → ℕ → Traffic → List Handed
made_at_source k number t = map (handed_to t.source) (made_by k number t)

-- those of all entries, by the entries' numbers
abbrev pub made_in : Plant → ℕ → List Handed
made_in plant k = flat_map (λ (entry : ℕ × Traffic). made_at_source k entry.0 entry.1) (enumerate_from 0 plant.traffic)
