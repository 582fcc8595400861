-- PDIRGlobalData: the one spelling of a device's delays, and its reading from left to right.
use Rattle.std.specs.Prelude.{ℕ, List, ◌++◌, length, replicate, Ok}
use Rattle.std.specs.List.{flat_map}
use Rattle.irt_base.specs.declared.limits.TheConstants.{MAX_DELAY, MAX_PORTS}
use Rattle.irt_base.specs.declared.blocks.PortDelay.{PortDelay}
use Rattle.irt_base.specs.declared.blocks.GlobalBlock.{GlobalBlock}
use Rattle.irt_block.specs.declared.header.BlockId.{BlockId}
use Rattle.irt_block.specs.Reading.{◌>>=◌, Reader, spelled, raw_at, ruled_at, within, pad_at, repeat_at}
use Rattle.irt_block.specs.Header.{block_bytes, block_at}

-- ---- the spelling

abbrev pub global_id : BlockId
global_id = record { kind = 0x0206; high = 1; low = 1 }

-- the eight bytes of a port
abbrev pub port_bytes : PortDelay → List ℕ
port_bytes p = spelled 4 p.tx ++ spelled 4 p.rx

abbrev pub global_fields_bytes : GlobalBlock → List ℕ
global_fields_bytes b = replicate 2 0 ++ b.uuid ++ spelled 4 b.bridge ++ spelled 4 (length b.ports) ++ flat_map port_bytes b.ports

-- the one spelling
abbrev pub global_bytes : GlobalBlock → List ℕ
global_bytes b = block_bytes global_id (global_fields_bytes b)

-- ---- the reading order

unfoldable pub port_at : Reader PortDelay
port_at extent rest = do
  tx ← ruled_at 4 (within 0 MAX_DELAY) extent rest
  rx ← ruled_at 4 (within 0 MAX_DELAY) extent tx.1
  Ok (record { tx = tx.0; rx = rx.0 }, rx.1)

unfoldable pub global_fields_at : Reader GlobalBlock
global_fields_at extent rest = do
  pad ← pad_at 2 extent rest
  uuid ← raw_at 16 extent pad.1
  bridge ← ruled_at 4 (within 0 MAX_DELAY) extent uuid.1
  count ← ruled_at 4 (within 1 MAX_PORTS) extent bridge.1
  ports ← repeat_at port_at count.0 extent count.1
  Ok (record { uuid = uuid.0; bridge = bridge.0; ports = ports.0 }, ports.1)

-- the delays off the front of the bytes that are left
abbrev pub global_in : Reader GlobalBlock
global_in = block_at global_id global_fields_at
