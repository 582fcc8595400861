-- The device file: the one spelling of a bundle, and its reading from left to right.
use Rattle.std.specs.Prelude.{List, ◌++◌, ℕ, replicate, Ok}
use Rattle.irt_base.specs.declared.blocks.Bundle.{Bundle}
use Rattle.irt_block.specs.declared.header.BlockId.{BlockId}
use Rattle.irt_block.specs.Reading.{◌>>=◌, Reader, spelled, number_at, pad_at}
use Rattle.irt_block.specs.Header.{block_bytes, block_at}
use Rattle.pd_blocks.specs.Sync.{sync_bytes, sync_in}
use Rattle.pd_blocks.specs.Global.{global_bytes, global_in}
use Rattle.pdir_frame.specs.Frames.{frame_bytes, frames_in}
use Rattle.pdir_begin_end.specs.Periods.{periods_bytes, periods_in}
use Rattle.irt_bundle.specs.declared.reading.Data.{Data}

-- ---- the spelling

abbrev pub data_id : BlockId
data_id = record { kind = 0x0205; high = 1; low = 1 }

abbrev pub data_fields_bytes : Data → List ℕ
data_fields_bytes d =
    replicate 2 0
    ++ spelled 2 d.slot
    ++ spelled 2 d.subslot
    ++ global_bytes d.global
    ++ frame_bytes d.frames
    ++ periods_bytes d.periods

abbrev pub data_bytes : Data → List ℕ
data_bytes d = block_bytes data_id (data_fields_bytes d)

-- what PDIRData holds of a bundle
abbrev pub data_of : Bundle → Data
data_of b = record { slot = b.slot; subslot = b.subslot; global = b.global; frames = b.frames; periods = b.periods }

-- the one spelling: PDSyncData, and then PDIRData
abbrev pub bundle_bytes : Bundle → List ℕ
bundle_bytes b = sync_bytes b.sync ++ data_bytes (data_of b)

-- ---- the reading order

-- The three blocks are fields of PDIRData: bytes of them that are missing before its end are a fault of
-- its BlockLength.
unfoldable pub data_fields_at : Reader Data
data_fields_at extent rest = do
  pad ← pad_at 2 extent rest
  slot ← number_at 2 extent pad.1
  subslot ← number_at 2 extent slot.1
  global ← global_in extent subslot.1
  frames ← frames_in extent global.1
  periods ← periods_in extent frames.1
  Ok (record { slot = slot.0; subslot = subslot.0; global = global.0; frames = frames.0; periods = periods.0 }, periods.1)

abbrev pub data_in : Reader Data
data_in = block_at data_id data_fields_at

unfoldable pub bundle_in : Reader Bundle
bundle_in extent rest = do
  sync ← sync_in extent rest
  inner ← data_in extent sync.1
  Ok (record { sync = sync.0; slot = inner.0.slot; subslot = inner.0.subslot; global = inner.0.global; frames = inner.0.frames; periods = inner.0.periods }, inner.1)
