-- The rows of a cycle's frames: each says that an occupation, a delivery or a drop takes place.
use Rattle.std.specs.Prelude.{◌≡◌, ℕ, List, Some, slice_get, ℤ}
use Rattle.irt_base.specs.declared.blocks.Entry.{Entry}
use Rattle.plan_rules.specs.Arrival.{IsDrop, IsDelivery}
use Rattle.plan_rules.specs.Occupation.{IsOccupation}
use Rattle.plan_rules.specs.Way.{Setup}
use Rattle.plan_rules.specs.World.{WorldRow}
use Rattle.cycle_rows.specs.declared.rows.JournalRow.{JournalRow}
use Rattle.cycle_rows.specs.declared.rows.JournalRow.TheVariants.{Occupy, Deliver, Missed, Sent, Refused, Lost, Came}

-- A device drops a frame in a cycle, by whichever port and whenever it came.
pub record IsMissed (setup : Setup) (world : List WorldRow) (cycle device frame : ℕ) : Type 0 where
  pub row : WorldRow
  pub from : Entry
  pub port : ℕ
  pub start : ℤ
  pub in_cycle : slice_get world cycle ≡ Some row
  pub dropped : IsDrop setup row from (record { cycle = cycle; device = device; port = port; frame = frame; start = start })

-- What the row says of a frame takes place. Rows of parcels say nothing of frames.
abbrev pub IsFrameRow : Setup → List WorldRow → JournalRow → Type 0
IsFrameRow setup world (Occupy k d p f start end) =
    IsOccupation setup world (record { cycle = k; device = d.0; port = p.0; frame = f.0; start = start; end = end })
IsFrameRow setup world (Deliver k d f end) =
    IsDelivery setup world (record { cycle = k; device = d.0; frame = f.0; end = end })
IsFrameRow setup world (Missed k d f) = IsMissed setup world k d.0 f.0
IsFrameRow setup world (Sent k d p traffic serial start end) = ⊥
IsFrameRow setup world (Refused k d p traffic serial) = ⊥
IsFrameRow setup world (Lost k d p traffic serial) = ⊥
IsFrameRow setup world (Came k d traffic serial) = ⊥

abbrev pub cycle_of : JournalRow → ℕ
cycle_of (Occupy k d p f start end) = k
cycle_of (Deliver k d f end) = k
cycle_of (Missed k d f) = k
cycle_of (Sent k d p traffic serial start end) = k
cycle_of (Refused k d p traffic serial) = k
cycle_of (Lost k d p traffic serial) = k
cycle_of (Came k d traffic serial) = k

-- the rows of the frames of one cycle
abbrev pub IsFrameRowOf : Setup → List WorldRow → ℕ → JournalRow → Type 0
IsFrameRowOf setup world k r = (cycle_of r ≡ k) × IsFrameRow setup world r
