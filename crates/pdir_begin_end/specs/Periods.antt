-- PDIRBeginEndData: the one spelling of a device's periods, and their reading from left to right.
use Rattle.std.specs.Prelude.{ℕ, Bool, nat_lt, List, ◌++◌, length, replicate, Ok}
use Rattle.std.specs.List.{flat_map}
use Rattle.irt_base.specs.declared.limits.TheConstants.{MIN_FRAME, MAX_RED_FRAME, MAX_PORTS, MAX_ASSIGNMENTS, PHASES}
use Rattle.irt_base.specs.declared.blocks.Period.{Period}
use Rattle.irt_base.specs.declared.blocks.Assignment.{Assignment}
use Rattle.irt_base.specs.declared.blocks.PhasePair.{PhasePair}
use Rattle.irt_base.specs.declared.blocks.PortPeriods.{PortPeriods}
use Rattle.irt_base.specs.declared.blocks.PeriodBlock.{PeriodBlock}
use Rattle.irt_block.specs.declared.header.BlockId.{BlockId}
use Rattle.irt_block.specs.Reading.{◌>>=◌, Reader, spelled, number_at, ruled_at, within, constant_at, pad_at, repeat_at}
use Rattle.irt_block.specs.Header.{block_bytes, block_at}

-- ---- the spelling

abbrev pub periods_id : BlockId
periods_id = record { kind = 0x0208; high = 1; low = 0 }

abbrev pub period_bytes : Period → List ℕ
period_bytes p = spelled 4 p.red ++ spelled 4 p.orange ++ spelled 4 p.green

abbrev pub assignment_bytes : Assignment → List ℕ
assignment_bytes a = period_bytes a.tx ++ period_bytes a.rx

abbrev pub phase_bytes : PhasePair → List ℕ
phase_bytes p = spelled 2 p.tx ++ spelled 2 p.rx

abbrev pub port_bytes : PortPeriods → List ℕ
port_bytes p = spelled 4 (length p.assignments) ++ flat_map assignment_bytes p.assignments ++ spelled 4 PHASES ++ flat_map phase_bytes p.phases

abbrev pub fields_bytes : PeriodBlock → List ℕ
fields_bytes b = replicate 2 0 ++ spelled 2 b.first ++ spelled 2 b.last ++ spelled 4 (length b.ports) ++ flat_map port_bytes b.ports

-- the one spelling
abbrev pub periods_bytes : PeriodBlock → List ℕ
periods_bytes b = block_bytes periods_id (fields_bytes b)

-- ---- the reading order

unfoldable pub period_at : Reader Period
period_at extent rest = do
  red ← number_at 4 extent rest
  orange ← number_at 4 extent red.1
  green ← number_at 4 extent orange.1
  Ok (record { red = red.0; orange = orange.0; green = green.0 }, green.1)

unfoldable pub assignment_at : Reader Assignment
assignment_at extent rest = do
  tx ← period_at extent rest
  rx ← period_at extent tx.1
  Ok (record { tx = tx.0; rx = rx.0 }, rx.1)

abbrev pub is_below : ℕ → ℕ → Bool
is_below count n = nat_lt n count

-- a phase of a port with so many assignments
unfoldable pub phase_at : ℕ → Reader PhasePair
phase_at count extent rest = do
  tx ← ruled_at 2 (is_below count) extent rest
  rx ← ruled_at 2 (is_below count) extent tx.1
  Ok (record { tx = tx.0; rx = rx.0 }, rx.1)

unfoldable pub port_at : Reader PortPeriods
port_at extent rest = do
  count ← ruled_at 4 (within 1 MAX_ASSIGNMENTS) extent rest
  assignments ← repeat_at assignment_at count.0 extent count.1
  sixteen ← constant_at 4 PHASES extent assignments.1
  phases ← repeat_at (phase_at count.0) PHASES extent sixteen.1
  Ok (record { assignments = assignments.0; phases = phases.0 }, phases.1)

unfoldable pub fields_at : Reader PeriodBlock
fields_at extent rest = do
  pad ← pad_at 2 extent rest
  first ← ruled_at 2 (within MIN_FRAME MAX_RED_FRAME) extent pad.1
  last ← ruled_at 2 (within first.0 MAX_RED_FRAME) extent first.1
  count ← ruled_at 4 (within 1 MAX_PORTS) extent last.1
  ports ← repeat_at port_at count.0 extent count.1
  Ok (record { first = first.0; last = last.0; ports = ports.0 }, ports.1)

-- periods off the front of the bytes that are left
abbrev pub periods_in : Reader PeriodBlock
periods_in = block_at periods_id fields_at
