-- The rows of parcels that were refused or have come in a cycle.
use Rattle.std.specs.Prelude.{ℕ, ◌+◌, List, [], ◌∷◌, length}
use Rattle.cycle_rows.specs.declared.rows.JournalRow.{JournalRow}
use Rattle.parcel_rules.specs.Loads.{refused_row, came_row}
use Rattle.parcel_rules.specs.declared.handed.Handed.{Handed}
use Rattle.parcel_loads.specs.declared.passing.Passed.{Passed}
use Rattle.parcel_loads.specs.declared.passing.Passed.TheVariants.{Came, Queued, Refused, Stays}

pub record NotesState : Type 0 where
  pub refused : List JournalRow
  pub came : List JournalRow
  -- how many rows of both kinds there may be
  pub room : ℕ

abbrev pub noted : NotesState → ℕ
noted notes = length notes.refused + length notes.came

-- the rows of a parcel, by what became of it when it was handed over
abbrev pub refused_by : ℕ → Handed → Passed → List JournalRow
refused_by k h Came = []
refused_by k h (Queued port) = []
refused_by k h (Refused port) = refused_row k (h.device, port) h.parcel ∷ []
refused_by k h Stays = []

abbrev pub came_by : ℕ → Handed → Passed → List JournalRow
came_by k h Came = came_row k h ∷ []
came_by k h (Queued port) = []
came_by k h (Refused port) = []
came_by k h Stays = []
