-- How far a cursor is among the rows of a journal.
use Rattle.std.specs.Prelude.{◌≤◌, ◌<◌, ◌==◌, ℕ, Bool, false, List, length, take, drop, slice_get, All}
use Rattle.std.specs.Option.{option_map_or}
use Rattle.cycle_rows.specs.Rows.{cycle_of}
use Rattle.cycle_rows.specs.declared.rows.JournalRow.{JournalRow}

-- all rows before it are of cycles before this one, and no others are
pub record IsCursor (rows : List JournalRow) (k at : ℕ) : Type 0 where
  pub within : at ≤ length rows
  pub before : All (λ (r : JournalRow). cycle_of r < k) (take at rows)
  pub after : All (λ (r : JournalRow). k ≤ cycle_of r) (drop at rows)

-- whether there is a row at a place, and it is of a cycle
abbrev pub is_row_of : List JournalRow → ℕ → ℕ → Bool
is_row_of rows at k = option_map_or (λ (r : JournalRow). cycle_of r == k) (slice_get rows at) false
