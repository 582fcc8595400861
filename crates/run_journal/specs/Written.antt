-- What a clause sees of a journal.
use Rattle.std.specs.Prelude.{◌≡◌, ℕ, List, ◌++◌, take, drop, AllPairs, IsPermutation}
use Rattle.cycle_rows.specs.declared.rows.JournalRow.{JournalRow}
use Rattle.cycle_rows.specs.Order.{HasOtherKey, AreInOrder}

-- its rows, and for how many more there is room
pub record Written : Type 0 where
  pub rows : List JournalRow
  pub room : ℕ

-- What stands from a place on was sorted, which puts rows of different keys in order; what stands before was not touched.
pub record IsSortedFrom (from : ℕ) (old new : List JournalRow) : Type 0 where
  pub part : List JournalRow
  pub whole : new ≡ take from old ++ part
  pub same : IsPermutation (drop from old) part
  pub order : AllPairs HasOtherKey (drop from old) → AreInOrder part
