-- The journal of a run.
use Rattle.std.specs.Prelude.{◌↔◌, ℕ, suc, List, [], ◌++◌, Contains}
use Rattle.plan_rules.specs.Way.{Setup}
use Rattle.plan_rules.specs.World.{WorldRow}
use Rattle.cycle_rows.specs.declared.rows.JournalRow.{JournalRow}
use Rattle.cycle_rows.specs.Order.{AreInOrder}
use Rattle.cycle_rows.specs.Rows.{IsFrameRowOf}

-- What the frames of a cycle put into the journal: exactly their rows, each once, in their order.
pub record IsSegment (setup : Setup) (world : List WorldRow) (k : ℕ) (rows : List JournalRow) : Type 0 where
  pub order : AreInOrder rows
  pub exactly : (r : JournalRow) → Contains rows r ↔ IsFrameRowOf setup world k r

-- The rows of so many cycles, one cycle behind the other: in each those of the frames, then those of the parcels.
pub data IsJournal (setup : Setup) (world : List WorldRow) (parcels : ℕ → List JournalRow) : ℕ → List JournalRow → Type 0 where
  none : IsJournal setup world parcels 0 []
  more : (k : ℕ) (rows frames : List JournalRow) → IsJournal setup world parcels k rows → IsSegment setup world k frames →
      IsJournal setup world parcels (suc k) (rows ++ (frames ++ parcels k))

-- the rows of the parcels of a plant without traffic
abbrev pub no_parcels : ℕ → List JournalRow
no_parcels k = []
