-- Rows that use a link direction, and when they are apart.
use Rattle.std.specs.Prelude.{◌≡◌, ℕ, ◌⊎◌, List, Option, Some, None, ℤ, ◌≤ℤ◌, AllPairs}
use Rattle.cycle_rows.specs.declared.rows.JournalRow.{JournalRow}
use Rattle.cycle_rows.specs.declared.rows.JournalRow.TheVariants.{Occupy, Deliver, Missed, Sent, Refused, Lost, Came}

-- A link direction, named by its sender's device and port, from when until when it is in use: half-open, in true ns.
pub record Use : Type 0 where
  pub device : ℕ
  pub port : ℕ
  pub start : ℤ
  pub end : ℤ

-- Frames and parcels on the wire use it.
abbrev pub use_of : JournalRow → Option Use
use_of (Occupy k d p f start end) = Some (record { device = d.0; port = p.0; start = start; end = end })
use_of (Deliver k d f end) = None
use_of (Missed k d f) = None
use_of (Sent k d p traffic serial start end) = Some (record { device = d.0; port = p.0; start = start; end = end })
use_of (Refused k d p traffic serial) = None
use_of (Lost k d p traffic serial) = None
use_of (Came k d traffic serial) = None

-- Two uses are not of one direction, or one of them ends by the time at which the other begins.
abbrev pub IsClearOf : Use → Use → Type 0
IsClearOf u v = u.device ≡ v.device → u.port ≡ v.port → (u.end ≤ℤ v.start) ⊎ (v.end ≤ℤ u.start)

abbrev pub AreClear : JournalRow → JournalRow → Type 0
AreClear r s = (u v : Use) → use_of r ≡ Some u → use_of s ≡ Some v → IsClearOf u v

-- No link direction is used by two at once: at any two places of the list.
abbrev pub AreRowsApart : List JournalRow → Type 0
AreRowsApart rows = AllPairs AreClear rows
