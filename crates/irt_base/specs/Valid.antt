-- Which block values are valid: the ranges of their fields. A clause's numbers have no upper bound, so
-- the range of a field's type is said where no narrower one is.
use Rattle.std.specs.Prelude.{◌≡◌, ℕ, ◌<◌, ◌≤◌, ◌%◌, ◌^◌, ◌⊎◌, List, map, length}
use Rattle.std.specs.List.{AllByRecursion}
use Rattle.std.specs.List.Sorted.{IsStrictlyIncreasing}
use Rattle.irt_base.specs.declared.limits.TheConstants.{MIN_DATA, MAX_DATA, DATA_STEP, MIN_FRAME, MAX_FRAME, MAX_RED_FRAME, MAX_PORTS, MAX_DEMANDS, MAX_DELAY, MAX_WINDOW, MAX_FACTOR, MAX_DOMAIN_NAME, MAX_ASSIGNMENTS, PHASES}
use Rattle.irt_base.specs.declared.blocks.Entry.{Entry}
use Rattle.irt_base.specs.declared.blocks.FrameBlock.{FrameBlock}
use Rattle.irt_base.specs.declared.blocks.Period.{Period}
use Rattle.irt_base.specs.declared.blocks.Assignment.{Assignment}
use Rattle.irt_base.specs.declared.blocks.PhasePair.{PhasePair}
use Rattle.irt_base.specs.declared.blocks.PortPeriods.{PortPeriods}
use Rattle.irt_base.specs.declared.blocks.PeriodBlock.{PeriodBlock}
use Rattle.irt_base.specs.declared.blocks.PortDelay.{PortDelay}
use Rattle.irt_base.specs.declared.blocks.GlobalBlock.{GlobalBlock}
use Rattle.irt_base.specs.declared.blocks.SyncBlock.{SyncBlock}
use Rattle.irt_base.specs.declared.blocks.Bundle.{Bundle}

-- from low to high, both included
abbrev pub IsWithin : ℕ → ℕ → ℕ → Type 0
IsWithin low high n = (low ≤ n) × (n ≤ high)

-- a data length: 40, 48 .. 1440 bytes
abbrev pub IsDataLength : ℕ → Type 0
IsDataLength n = IsWithin MIN_DATA MAX_DATA n × (n % DATA_STEP ≡ 0)

-- a reduction ratio
abbrev pub IsRatio : ℕ → Type 0
IsRatio n = (n ≡ 1) ⊎ (n ≡ 2) ⊎ (n ≡ 4) ⊎ (n ≡ 8) ⊎ (n ≡ 16)

-- a reduction ratio and one of its phases
abbrev pub IsRate : ℕ → ℕ → Type 0
IsRate ratio phase = IsRatio ratio × IsWithin 1 ratio phase

abbrev pub AreBytes : List ℕ → Type 0
AreBytes bytes = AllByRecursion (λ b. b < 256) bytes

-- an identifier of sixteen bytes
abbrev pub IsIdentifier : List ℕ → Type 0
IsIdentifier bytes = (length bytes ≡ 16) × AreBytes bytes

pub record IsEntry (e : Entry) : Type 0 where
  pub offset : e.send_offset < 2 ^ 32
  pub length : IsDataLength e.data_length
  pub rate : IsRate e.ratio e.phase
  pub frame : IsWithin MIN_FRAME MAX_FRAME e.frame.0
  pub rx_port : e.rx_port ≤ MAX_PORTS
  pub tx : e.tx < 2 ^ 8

-- the FrameIDs of entries, as they stand
abbrev pub frames_of : List Entry → List ℕ
frames_of entries = map (λ e. e.frame.0) entries

pub record IsFrameBlock (b : FrameBlock) : Type 0 where
  pub count : length b.entries ≤ MAX_DEMANDS
  pub each : AllByRecursion IsEntry b.entries
  pub ascending : IsStrictlyIncreasing (frames_of b.entries)

pub record IsPeriod (p : Period) : Type 0 where
  pub red : p.red < 2 ^ 32
  pub orange : p.orange < 2 ^ 32
  pub green : p.green < 2 ^ 32

pub record IsAssignment (a : Assignment) : Type 0 where
  pub tx : IsPeriod a.tx
  pub rx : IsPeriod a.rx

-- both numbers name one of so many assignments
pub record IsPhasePair (assignments : ℕ) (p : PhasePair) : Type 0 where
  pub tx : p.tx < assignments
  pub rx : p.rx < assignments

pub record IsPortPeriods (p : PortPeriods) : Type 0 where
  pub count : IsWithin 1 MAX_ASSIGNMENTS (length p.assignments)
  pub assignments : AllByRecursion IsAssignment p.assignments
  pub sixteen : length p.phases ≡ PHASES
  pub phases : AllByRecursion (IsPhasePair (length p.assignments)) p.phases

pub record IsPeriodBlock (b : PeriodBlock) : Type 0 where
  pub first : IsWithin MIN_FRAME MAX_RED_FRAME b.first
  pub last : IsWithin b.first MAX_RED_FRAME b.last
  pub count : IsWithin 1 MAX_PORTS (length b.ports)
  pub ports : AllByRecursion IsPortPeriods b.ports

pub record IsPortDelay (p : PortDelay) : Type 0 where
  pub tx : p.tx ≤ MAX_DELAY
  pub rx : p.rx ≤ MAX_DELAY

pub record IsGlobalBlock (b : GlobalBlock) : Type 0 where
  pub uuid : IsIdentifier b.uuid
  pub bridge : b.bridge ≤ MAX_DELAY
  pub count : IsWithin 1 MAX_PORTS (length b.ports)
  pub ports : AllByRecursion IsPortDelay b.ports

-- a-z, 0-9, `-` and `.`
abbrev pub IsDomainByte : ℕ → Type 0
IsDomainByte b = IsWithin 97 122 b ⊎ IsWithin 48 57 b ⊎ (b ≡ 45) ⊎ (b ≡ 46)

pub record IsSyncBlock (b : SyncBlock) : Type 0 where
  pub subdomain : IsIdentifier b.subdomain
  pub window : b.window ≤ MAX_WINDOW
  pub send : b.send < 2 ^ 32
  pub factor : IsWithin 1 MAX_FACTOR b.factor
  pub timeout : b.timeout < 2 ^ 16
  pub takeover : b.takeover < 2 ^ 16
  pub startup : b.startup < 2 ^ 16
  pub properties : b.properties < 2 ^ 16
  pub priority1 : b.priority1 < 2 ^ 8
  pub priority2 : b.priority2 < 2 ^ 8
  pub name : IsWithin 1 MAX_DOMAIN_NAME (length b.name)
  pub letters : AllByRecursion IsDomainByte b.name

pub record IsBundle (b : Bundle) : Type 0 where
  pub sync : IsSyncBlock b.sync
  pub slot : b.slot < 2 ^ 16
  pub subslot : b.subslot < 2 ^ 16
  pub global : IsGlobalBlock b.global
  pub frames : IsFrameBlock b.frames
  pub periods : IsPeriodBlock b.periods
