-- What has become of a parcel, which is named by its traffic entry and its serial.
use Rattle.std.specs.Prelude.{◌≡◌, ℕ, ◌+◌, ◌≤◌, ◌==◌, Bool, false, ◌&&◌, List, flat_map, count_by, sum_by}
use Rattle.std.specs.List.{range_with_len}
use Rattle.irt_base.specs.declared.blocks.Bundle.{Bundle}
use Rattle.irt_base.specs.declared.numbers.PortNo.{PortNo}
use Rattle.irt_base.specs.declared.plants.Plant.{Plant}
use Rattle.plan_rules.specs.World.{WorldRow}
use Rattle.period_gate.specs.declared.parcels.Parcel.{Parcel}
use Rattle.period_gate.specs.Gate.{Waiting}
use Rattle.cycle_rows.specs.declared.rows.JournalRow.{JournalRow}
use Rattle.cycle_rows.specs.declared.rows.JournalRow.TheVariants.{Refused, Lost, Came}
use Rattle.parcel_rules.specs.declared.handed.Handed.{Handed}
use Rattle.parcel_rules.specs.Cycle.{all_ports, loads_at}
use Rattle.parcel_rules.specs.Loads.{Gates, gate_at}
use Rattle.parcel_rules.specs.Made.{made_in}
use Rattle.parcel_rules.specs.Rows.{parcel_rows}
use Rattle.parcel_rules.specs.Steps.{Step}

abbrev pub is_parcel : ℕ → ℕ → Parcel → Bool
is_parcel traffic serial parcel = (parcel.traffic == traffic) && (parcel.serial == serial)

abbrev pub is_refused : ℕ → ℕ → JournalRow → Bool
is_refused traffic serial (Refused k d p t s) = (t == traffic) && (s == serial)
is_refused traffic serial _ = false

abbrev pub is_lost : ℕ → ℕ → JournalRow → Bool
is_lost traffic serial (Lost k d p t s) = (t == traffic) && (s == serial)
is_lost traffic serial _ = false

abbrev pub is_come : ℕ → ℕ → JournalRow → Bool
is_come traffic serial (Came k d t s) = (t == traffic) && (s == serial)
is_come traffic serial _ = false

-- how often it waits at a port, and at all ports
abbrev pub waiting_in : ℕ → ℕ → Waiting → ℕ
waiting_in traffic serial gate =
    count_by (is_parcel traffic serial) gate.orange + count_by (is_parcel traffic serial) gate.green

abbrev pub waiting_count : Plant → ℕ → ℕ → Gates → ℕ
waiting_count plant traffic serial gates =
    sum_by (λ (at : Step). waiting_in traffic serial (gate_at gates at)) (all_ports plant)

-- how often it is handed over
abbrev pub handed_count : ℕ → ℕ → List Handed → ℕ
handed_count traffic serial hs = count_by (λ (h : Handed). is_parcel traffic serial h.parcel) hs

-- all that is made in the cycles below a number, and the rows of all parcels in them
abbrev pub made_before : Plant → ℕ → List Handed
made_before plant cycles = flat_map (made_in plant) (range_with_len 0 cycles)

abbrev pub rows_before : Plant → List Bundle → List (List PortNo) → List WorldRow → ℕ → List JournalRow
rows_before plant bundles walks world cycles =
    flat_map (parcel_rows plant bundles walks world) (range_with_len 0 cycles)

-- After so many cycles a parcel that was made, once, waits at a port, is on the way over a link, was refused, was
-- lost or has come: one of these and once. A parcel that was not made does none of it.
pub record HasOneFate (plant : Plant) (bundles : List Bundle) (walks : List (List PortNo)) (world : List WorldRow) (cycles traffic serial : ℕ) : Type 0 where
  pub once : handed_count traffic serial (made_before plant cycles) ≤ 1
  pub one : waiting_count plant traffic serial (loads_at plant bundles walks world cycles).gates
      + handed_count traffic serial (loads_at plant bundles walks world cycles).flight
      + count_by (is_refused traffic serial) (rows_before plant bundles walks world cycles)
      + count_by (is_lost traffic serial) (rows_before plant bundles walks world cycles)
      + count_by (is_come traffic serial) (rows_before plant bundles walks world cycles)
      ≡ handed_count traffic serial (made_before plant cycles)
