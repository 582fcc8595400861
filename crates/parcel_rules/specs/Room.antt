-- How many rows of the journal parcels may still get.
use Rattle.std.specs.Prelude.{ℕ, ◌+◌, ◌*◌, if◌then◌else◌, List, [], ◌∷◌, length, slice_get, slice_index_or, sum_by}
use Rattle.std.specs.List.{enumerate_from}
use Rattle.std.specs.Option.{option_map_or}
use Rattle.irt_base.specs.declared.numbers.DevId.{DevId}
use Rattle.irt_base.specs.declared.numbers.PortNo.{PortNo}
use Rattle.irt_base.specs.declared.plants.Plant.{Plant}
use Rattle.irt_base.specs.declared.plants.Traffic.{Traffic}
use Rattle.period_gate.specs.declared.parcels.Parcel.{Parcel}
use Rattle.period_gate.specs.Gate.{Waiting}
use Rattle.parcel_rules.specs.declared.handed.Handed.{Handed}
use Rattle.parcel_rules.specs.Cycle.{all_ports}
use Rattle.parcel_rules.specs.Loads.{gate_at, Loads}
use Rattle.parcel_rules.specs.Steps.{Step, steps_from, leaves_from}

-- the links that a walk still takes from a device on: none from its end
abbrev pub links_left : DevId → List Step → ℕ
links_left device [] = 0
links_left device (step ∷ more) = if leaves_from device step then length (step ∷ more) else links_left device more

-- the links that the parcels of an entry still take from a device on
abbrev pub links_to_go : Plant → List (List PortNo) → ℕ → DevId → ℕ
links_to_go plant walks number device =
    option_map_or
    (λ (t : Traffic). links_left device (steps_from plant t.source (slice_index_or walks number [])))
    (slice_get plant.traffic number) 0

-- A parcel at a device may still get a row for each link, and one for its end: refused, lost or come. With three links
-- to go these are 4.
abbrev pub rows_to_come : Plant → List (List PortNo) → DevId → Parcel → ℕ
rows_to_come plant walks device parcel = links_to_go plant walks parcel.traffic device + 1

abbrev pub waiting_rows : Plant → List (List PortNo) → DevId → Waiting → ℕ
waiting_rows plant walks device gate =
    sum_by (rows_to_come plant walks device) gate.orange + sum_by (rows_to_come plant walks device) gate.green

abbrev pub handed_rows : Plant → List (List PortNo) → List Handed → ℕ
handed_rows plant walks hs = sum_by (λ (h : Handed). rows_to_come plant walks h.device h.parcel) hs

-- the rows that all parcels which wait or are on the way may still get
abbrev pub pending : Plant → List (List PortNo) → Loads → ℕ
pending plant walks loads =
    sum_by (λ (at : Step). waiting_rows plant walks at.0 (gate_at loads.gates at)) (all_ports plant)
    + handed_rows plant walks loads.flight

-- the most rows that what is made in a cycle may ever get
abbrev pub most_rows : Plant → List (List PortNo) → ℕ
most_rows plant walks =
    sum_by (λ (e : ℕ × Traffic). e.1.count * (length (slice_index_or walks e.0 []) + 1)) (enumerate_from 0 plant.traffic)
