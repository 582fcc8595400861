-- What the journal of an accepted plan keeps.
use Rattle.std.specs.Prelude.{◌≡◌, ℕ, ◌<◌, ◌==◌, Bool, false, ◌&&◌, List, ℤ, Contains}
use Rattle.std.specs.List.{count_by}
use Rattle.irt_base.specs.declared.numbers.DevId.{DevId}
use Rattle.irt_base.specs.declared.numbers.FrameId.{FrameId}
use Rattle.irt_base.specs.declared.numbers.PortNo.{PortNo}
use Rattle.plan_rules.specs.Arrival.{IsInTime}
use Rattle.plan_rules.specs.Once.{HasToSend, HasToReach}
use Rattle.plan_rules.specs.Way.{Setup}
use Rattle.plan_rules.specs.World.{WorldRow}
use Rattle.cycle_rows.specs.declared.rows.JournalRow.{JournalRow}
use Rattle.cycle_rows.specs.declared.rows.JournalRow.TheVariants.{Occupy, Deliver, Missed}
use Rattle.cycle_rows.specs.Apart.{AreRowsApart}
use Rattle.cycle_rows.specs.Rows.{IsMissed}

-- the row has this frame behind this port in this cycle
abbrev pub is_sending : ℕ → ℕ → ℕ → ℕ → JournalRow → Bool
is_sending cycle device port frame (Occupy k d p f start end) =
    (k == cycle) && (d.0 == device) && (p.0 == port) && (f.0 == frame)
is_sending cycle device port frame _ = false

-- the row delivers this frame to this device in this cycle
abbrev pub is_delivery : ℕ → ℕ → ℕ → JournalRow → Bool
is_delivery cycle device frame (Deliver k d f end) = (k == cycle) && (d.0 == device) && (f.0 == frame)
is_delivery cycle device frame _ = false

-- this device drops this frame in this cycle
abbrev pub is_drop : ℕ → ℕ → ℕ → JournalRow → Bool
is_drop cycle device frame (Missed k d f) = (k == cycle) && (d.0 == device) && (f.0 == frame)
is_drop cycle device frame _ = false

-- Each frame that has to be sent by a port stands there once, and no other does.
pub record SendsOnce (setup : Setup) (world : List WorldRow) (cycles : ℕ) (rows : List JournalRow) : Type 0 where
  pub once : (k device port frame : ℕ) → k < cycles → HasToSend setup world k device port frame →
      count_by (is_sending k device port frame) rows ≡ 1
  pub only : (k : ℕ) (d : DevId) (p : PortNo) (f : FrameId) (start end : ℤ) → Contains rows (Occupy k d p f start end) →
      (k < cycles) × HasToSend setup world k d.0 p.0 f.0

-- Each due frame is delivered once to each of its consumers that has a live route, and to nobody else; in time.
pub record DeliversOnce (setup : Setup) (world : List WorldRow) (cycles : ℕ) (rows : List JournalRow) : Type 0 where
  pub once : (k device frame : ℕ) → k < cycles → HasToReach setup world k device frame → count_by (is_delivery k device frame) rows ≡ 1
  pub only : (k : ℕ) (d : DevId) (f : FrameId) (end : ℤ) → Contains rows (Deliver k d f end) →
      (k < cycles) × HasToReach setup world k d.0 f.0
  pub in_time : (k : ℕ) (d : DevId) (f : FrameId) (end : ℤ) → Contains rows (Deliver k d f end) →
      IsInTime setup (record { cycle = k; device = d.0; frame = f.0; end = end })

-- Each frame that comes to a device that is not in step is dropped once, and no other is.
pub record DropsOnce (setup : Setup) (world : List WorldRow) (cycles : ℕ) (rows : List JournalRow) : Type 0 where
  pub once : (k device frame : ℕ) → k < cycles → IsMissed setup world k device frame → count_by (is_drop k device frame) rows ≡ 1
  pub only : (k : ℕ) (d : DevId) (f : FrameId) → Contains rows (Missed k d f) → (k < cycles) × IsMissed setup world k d.0 f.0

-- the journal of so many cycles
pub record IsSafeJournal (setup : Setup) (world : List WorldRow) (cycles : ℕ) (rows : List JournalRow) : Type 0 where
  pub apart : AreRowsApart rows
  pub sends : SendsOnce setup world cycles rows
  pub delivers : DeliversOnce setup world cycles rows
  pub drops : DropsOnce setup world cycles rows
