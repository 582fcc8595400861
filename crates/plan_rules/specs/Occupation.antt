-- Occupations: which frame is on which link direction, from when until when.
use Rattle.std.specs.Prelude.{◌≡◌, ℕ, ◌⊎◌, List, Some, slice_get, ℤ, pos, ◌+ℤ◌, ◌≤ℤ◌, All, AllPairs}
use Rattle.irt_base.specs.Cycle.{IsDue, wire_time}
use Rattle.irt_base.specs.declared.blocks.Entry.{Entry}
use Rattle.plan_rules.specs.World.{WorldRow}
use Rattle.plan_rules.specs.Way.{Setup, entry_at, Leaves, IsLive, IsStart}

-- A frame that a device sends by a port in a cycle, with the half-open interval in which it is on the wire,
-- the gap behind it included: in true ns.
pub record Occupation : Type 0 where
  pub cycle : ℕ
  pub device : ℕ
  pub port : ℕ
  pub frame : ℕ
  pub start : ℤ
  pub end : ℤ

-- The blocks and the world say that this occupation takes place. World rows stand by cycle.
pub record IsOccupation (setup : Setup) (world : List WorldRow) (o : Occupation) : Type 0 where
  pub row : WorldRow
  pub entry : Entry
  pub in_cycle : slice_get world o.cycle ≡ Some row
  pub stands : entry_at setup o.device o.frame ≡ Some entry
  pub due : IsDue o.cycle entry.ratio entry.phase
  pub leaves : Leaves entry o.port
  pub live : IsLive setup row o.frame o.device
  pub starts : IsStart setup row o.cycle o.frame o.device o.start
  pub ends : o.end ≡ (o.start +ℤ pos (wire_time entry.data_length))

-- the same frame on the same direction in the same cycle
pub record IsSameSending (a b : Occupation) : Type 0 where
  pub cycle : a.cycle ≡ b.cycle
  pub device : a.device ≡ b.device
  pub port : a.port ≡ b.port
  pub frame : a.frame ≡ b.frame

-- A list of occupations, each of which stands at one place alone.
pub record AreOccupations (setup : Setup) (world : List WorldRow) (rows : List Occupation) : Type 0 where
  pub each : All (IsOccupation setup world) rows
  pub once : AllPairs (λ a b. ¬ IsSameSending a b) rows

-- one link direction, named by its sender's device and port
pub record IsSameDirection (a b : Occupation) : Type 0 where
  pub device : a.device ≡ b.device
  pub port : a.port ≡ b.port

-- touching is allowed
abbrev pub IsDisjoint : Occupation → Occupation → Type 0
IsDisjoint a b = (a.end ≤ℤ b.start) ⊎ (b.end ≤ℤ a.start)

-- No two frames occupy a link direction at once: at any two places of the list.
abbrev pub AreApart : List Occupation → Type 0
AreApart rows = AllPairs (λ a b. IsSameDirection a b → IsDisjoint a b) rows
