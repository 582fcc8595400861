-- The rows of a cycle's parcels.
use Rattle.std.specs.Prelude.{ℕ, ◌+◌, ◌*◌, if◌then◌else◌, List, [], ◌++◌, map, flat_map, Option, Some, None, slice_get, ℤ, pos, ◌+ℤ◌}
use Rattle.irt_base.specs.Cycle.{cycle_time}
use Rattle.irt_base.specs.declared.blocks.Bundle.{Bundle}
use Rattle.irt_base.specs.declared.numbers.PortNo.{PortNo}
use Rattle.irt_base.specs.declared.plants.Plant.{Plant}
use Rattle.plan_rules.specs.World.{WorldRow, is_uncut}
use Rattle.period_gate.specs.declared.parcels.Sent.{Sent}
use Rattle.cycle_rows.specs.declared.rows.JournalRow.{JournalRow}
use Rattle.cycle_rows.specs.declared.rows.JournalRow.TheVariants.{Sent as SentRow, Lost}
use Rattle.parcel_rules.specs.Cycle.{all_ports, sends, loads_at}
use Rattle.parcel_rules.specs.Loads.{Gates, Loads, Offers, offered}
use Rattle.parcel_rules.specs.Steps.{Step}

-- a local time of a device in a cycle, as true time in ns
abbrev pub true_time : Plant → WorldRow → ℕ → ℕ → ℕ → ℤ
true_time plant row k device local = pos (k * cycle_time plant.factor + local) +ℤ row.error device

abbrev pub sent_row : Plant → WorldRow → ℕ → Step → Sent → JournalRow
sent_row plant row k at one =
    SentRow k at.0 at.1 one.parcel.traffic one.parcel.serial
    (true_time plant row k at.0.0 one.start) (true_time plant row k at.0.0 one.end)

abbrev pub lost_row : ℕ → Step → Sent → JournalRow
lost_row k at one = Lost k at.0 at.1 one.parcel.traffic one.parcel.serial

-- all that a port sends
abbrev pub sent_rows_at : Plant → List Bundle → WorldRow → ℕ → Gates → Step → List JournalRow
sent_rows_at plant bundles row k gates at = map (sent_row plant row k at) (sends plant bundles row k gates at)

-- what a port sends onto a cut link
abbrev pub lost_rows_at : Plant → List Bundle → WorldRow → ℕ → Gates → Step → List JournalRow
lost_rows_at plant bundles row k gates at =
    if is_uncut plant row at.0.0 at.1.0 then [] else map (lost_row k at) (sends plant bundles row k gates at)

-- by device, port and start
abbrev pub sent_rows : Plant → List Bundle → WorldRow → ℕ → Gates → List JournalRow
sent_rows plant bundles row k gates = flat_map (sent_rows_at plant bundles row k gates) (all_ports plant)

abbrev pub lost_rows : Plant → List Bundle → WorldRow → ℕ → Gates → List JournalRow
lost_rows plant bundles row k gates = flat_map (lost_rows_at plant bundles row k gates) (all_ports plant)

-- Parcels sent stand first, by device, port and start; then those refused, in the order of offering; then those lost,
-- by device, port and start; then those come, in the order of handing over.
abbrev pub rows_after : Plant → List Bundle → WorldRow → ℕ → Offers → List JournalRow
rows_after plant bundles row k o =
    sent_rows plant bundles row k o.gates ++ (o.refused ++ (lost_rows plant bundles row k o.gates ++ o.came))

abbrev pub rows_in : Plant → List Bundle → List (List PortNo) → ℕ → Loads → Option WorldRow → List JournalRow
rows_in plant bundles walks k loads None = []
rows_in plant bundles walks k loads (Some row) = rows_after plant bundles row k (offered plant walks k loads)

-- Those of a cycle. A world has no more cycles than rows.
--
-- Two devices a and b are linked, port 1 to port 1. Orange begins at 6720 ns at a and green at 106720, in cycles of
-- 1000000 ns with a window of 1000. Traffic makes two green parcels of 60 bytes a cycle at a, which go to b. Errors
-- are 0. Each parcel takes (60 + 24) * 80 = 6720 ns. Cycle 0 has the rows
--     Sent 0 a 1, traffic 0, serial 0, from 106720 until 113440
--     Sent 0 a 1, traffic 0, serial 1, from 113440 until 120160
-- and cycle 1 two such with the serials 2 and 3, from 1106720 on, and
--     Came 1 b, traffic 0, serial 0
--     Came 1 b, traffic 0, serial 1
-- With a cut link in cycle 0, that cycle has besides Lost 0 a 1 for the serials 0 and 1, and cycle 1 has no Came.
abbrev pub parcel_rows : Plant → List Bundle → List (List PortNo) → List WorldRow → ℕ → List JournalRow
parcel_rows plant bundles walks world k =
    rows_in plant bundles walks k (loads_at plant bundles walks world k) (slice_get world k)
