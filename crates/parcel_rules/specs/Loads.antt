-- Where the parcels are between two cycles, and what their handing over and offering at the beginning of a cycle does.
use Rattle.std.specs.Prelude.{ℕ, ◌==◌, ◌&&◌, if◌then◌else◌, List, [], ◌∷◌, ◌++◌, length, fold, Option, Some, None, slice_get, slice_index_or}
use Rattle.irt_base.specs.declared.numbers.PortNo.{PortNo}
use Rattle.irt_base.specs.declared.plants.Class.{Class}
use Rattle.irt_base.specs.declared.plants.Plant.{Plant}
use Rattle.irt_base.specs.declared.plants.Traffic.{Traffic}
use Rattle.period_gate.specs.declared.parcels.Parcel.{Parcel}
use Rattle.period_gate.specs.declared.queue.TheConstants.{QUEUE_ROOM}
use Rattle.period_gate.specs.Gate.{Waiting, nothing_waiting, queue_of, with_last}
use Rattle.cycle_rows.specs.declared.rows.JournalRow.{JournalRow}
use Rattle.cycle_rows.specs.declared.rows.JournalRow.TheVariants.{Refused, Came}
use Rattle.parcel_rules.specs.declared.handed.Handed.{Handed}
use Rattle.parcel_rules.specs.Made.{made_in}
use Rattle.parcel_rules.specs.Steps.{Step, step_at}

-- by device and port, the parcels that wait there
abbrev pub Gates : Type 0
Gates = ℕ → ℕ → Waiting

abbrev pub gate_at : Gates → Step → Waiting
gate_at gates at = gates at.0.0 at.1.0

-- with another gate at one port
abbrev pub put : Gates → Step → Waiting → Gates
put gates at gate device port = if (device == at.0.0) && (port == at.1.0) then gate else gates device port

-- What waits at the ports, and what the links have brought: this is handed over at the beginning of the next cycle, in
-- this order.
pub record Loads : Type 0 where
  pub gates : Gates
  pub flight : List Handed

-- before the first cycle
abbrev pub no_loads : Loads
no_loads = record { gates = λ device port. nothing_waiting; flight = [] }

-- what waits at the ports while parcels are handed over, and the rows of those refused and of those that have come to
-- their targets so far
pub record Offers : Type 0 where
  pub gates : Gates
  pub refused : List JournalRow
  pub came : List JournalRow

abbrev pub no_offers : Gates → Offers
no_offers gates = record { gates = gates; refused = []; came = [] }

abbrev pub refused_row : ℕ → Step → Parcel → JournalRow
refused_row k at parcel = Refused k at.0 at.1 parcel.traffic parcel.serial

abbrev pub came_row : ℕ → Handed → JournalRow
came_row k h = Came k h.device h.parcel.traffic h.parcel.serial

-- A parcel is refused by a port at which so many of its class wait, and put last in its class elsewhere.
abbrev pub offer : ℕ → Class → Parcel → Offers → Step → Offers
offer k kind parcel o at =
    if length (queue_of kind (gate_at o.gates at)) == QUEUE_ROOM
    then record { gates = o.gates; refused = o.refused ++ refused_row k at parcel ∷ []; came = o.came }
    else record { gates = put o.gates at (with_last kind parcel (gate_at o.gates at)); refused = o.refused; came = o.came }

abbrev pub offer_by : ℕ → Class → Parcel → Offers → Option Step → Offers
offer_by k kind parcel o None = o
offer_by k kind parcel o (Some at) = offer k kind parcel o at

-- At its target a parcel has come. At another device it is offered to the port by which its walk goes on.
abbrev pub pass_on : Plant → List (List PortNo) → ℕ → Offers → Handed → Option Traffic → Offers
pass_on plant walks k o h None = o
pass_on plant walks k o h (Some t) =
    if t.target.0 == h.device.0 then record { gates = o.gates; refused = o.refused; came = o.came ++ came_row k h ∷ [] }
    else offer_by k t.«class» h.parcel o (step_at plant t.source (slice_index_or walks h.parcel.traffic []) h.device)

abbrev pub hand_over : Plant → List (List PortNo) → ℕ → Offers → Handed → Offers
hand_over plant walks k o h = pass_on plant walks k o h (slice_get plant.traffic h.parcel.traffic)

-- The beginning of a cycle: first what the links have brought is handed over, then what is made.
abbrev pub offered : Plant → List (List PortNo) → ℕ → Loads → Offers
offered plant walks k loads =
    fold (hand_over plant walks k) (no_offers loads.gates) (loads.flight ++ made_in plant k)
