-- The times of parcels.
use Rattle.std.proofs.Common.{◌≡◌, ℕ, ◌+◌, ◌*◌, ap₂, ◌∙◌, arith}
use Rattle.std.specs.Prelude.{ℤ, pos, ◌+ℤ◌}
use Rattle.std.proofs.lemmas.Int.{ints}
use Rattle.irt_base.specs.Cycle.{cycle_time}
use Rattle.irt_base.specs.declared.plants.Plant.{Plant}
use Rattle.irt_world.specs.declared.rows.Row.{Row}
use Rattle.irt_world.specs.Rows.{error_in}
use Rattle.cycle_rows.specs.declared.rows.JournalRow.{JournalRow}
use Rattle.cycle_rows.specs.declared.rows.JournalRow.TheVariants.{Sent as SentRow}
use Rattle.net_begin.specs.Clocks.{begin_of}
use Rattle.parcel_rules.specs.Rows.{sent_row}
use Rattle.parcel_rules.specs.Steps.{Step}
use Rattle.period_gate.specs.declared.parcels.Sent.{Sent}
use Rattle.net_parcels.specs.Outlets.{parcel_world}

-- a time after the begin of a cycle that is off by an error
later : (base local : ℕ) (error begin : ℤ) → begin ≡ (pos base +ℤ error) → (begin +ℤ pos local) ≡ (pos (base + local) +ℤ error)
later base local error begin is = omega (arith, ints)

pub row_by_begin : (plant : Plant) (row : Row) (k : ℕ) (at : Step) (one : Sent) (begin : ℤ) (r : JournalRow) → begin ≡ begin_of plant row k at.0.0 →
    r ≡ SentRow k at.0 at.1 one.parcel.traffic one.parcel.serial (begin +ℤ pos one.start) (begin +ℤ pos one.end) →
    r ≡ sent_row plant (parcel_world row) k at one
row_by_begin plant row k at one begin r is made =
    let Base : ℕ = k * cycle_time plant.factor in
    made ∙ ap₂ (SentRow k at.0 at.1 one.parcel.traffic one.parcel.serial) (later Base one.start (error_in row at.0.0) begin is)
    (later Base one.end (error_in row at.0.0) begin is)
