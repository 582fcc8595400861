-- PDIRFrameData: the one spelling of a frame block, and its reading from left to right.
use Rattle.std.specs.Prelude.{ℕ, zero, suc, ◌+◌, ◌%◌, ◌==◌, ◌&&◌, ◌||◌, Bool, if◌then◌else◌, List, [], ◌∷◌, ◌++◌, length, replicate, Ok}
use Rattle.std.specs.List.{flat_map}
use Rattle.irt_base.specs.declared.limits.TheConstants.{MIN_DATA, MAX_DATA, DATA_STEP, MIN_FRAME, MAX_FRAME, MAX_PORTS, MAX_DEMANDS}
use Rattle.irt_base.specs.declared.blocks.Entry.{Entry}
use Rattle.irt_base.specs.declared.blocks.FrameBlock.{FrameBlock}
use Rattle.irt_block.specs.declared.header.BlockId.{BlockId}
use Rattle.irt_block.specs.Reading.{◌>>=◌, Reader, spelled, number_at, ruled_at, within, constant_at, pad_at}
use Rattle.irt_block.specs.Header.{block_bytes, block_at}
use Rattle.pdir_frame.specs.declared.entry.TheConstants.{ETHERTYPE, FRAME_DETAILS, TX_PORT_GROUPS}

-- ---- the spelling

abbrev pub frames_id : BlockId
frames_id = record { kind = 0x0207; high = 1; low = 1 }

-- the twenty bytes of an entry
abbrev pub entry_bytes : Entry → List ℕ
entry_bytes e =
    spelled 4 e.send_offset
    ++ spelled 2 e.data_length
    ++ spelled 2 e.ratio
    ++ spelled 2 e.phase
    ++ spelled 2 e.frame.0
    ++ spelled 2 ETHERTYPE
    ++ spelled 1 e.rx_port
    ++ spelled 1 FRAME_DETAILS
    ++ spelled 1 TX_PORT_GROUPS
    ++ spelled 1 e.tx
    ++ replicate 2 0

-- FrameDataProperties: 0 absolute, 1 relative
abbrev pub properties_of : Bool → ℕ
properties_of relative = if relative then 1 else 0

abbrev pub fields_bytes : FrameBlock → List ℕ
fields_bytes b = replicate 2 0 ++ spelled 4 (properties_of b.relative) ++ flat_map entry_bytes b.entries

-- The one spelling. A block without entries is 0207 0008 0101 0000 00000000.
abbrev pub frame_bytes : FrameBlock → List ℕ
frame_bytes b = block_bytes frames_id (fields_bytes b)

-- ---- the reading order

abbrev pub is_data_length : ℕ → Bool
is_data_length n = within MIN_DATA MAX_DATA n && (n % DATA_STEP == 0)

abbrev pub is_ratio : ℕ → Bool
is_ratio n = (n == 1) || (n == 2) || (n == 4) || (n == 8) || (n == 16)

-- an entry with a FrameID of `least` or more
unfoldable pub entry_at : ℕ → Reader Entry
entry_at least extent rest = do
  send_offset ← number_at 4 extent rest
  data_length ← ruled_at 2 is_data_length extent send_offset.1
  ratio ← ruled_at 2 is_ratio extent data_length.1
  phase ← ruled_at 2 (within 1 ratio.0) extent ratio.1
  frame ← ruled_at 2 (within least MAX_FRAME) extent phase.1
  ethertype ← constant_at 2 ETHERTYPE extent frame.1
  rx_port ← ruled_at 1 (within 0 MAX_PORTS) extent ethertype.1
  details ← constant_at 1 FRAME_DETAILS extent rx_port.1
  groups ← constant_at 1 TX_PORT_GROUPS extent details.1
  tx ← number_at 1 extent groups.1
  pad ← pad_at 2 extent tx.1
  Ok (record { send_offset = send_offset.0; data_length = data_length.0; ratio = ratio.0; phase = phase.0; frame = record { 0 = frame.0 }; rx_port = rx_port.0; tx = tx.0 }, pad.1)

-- at most so many entries while bytes are left, the first with a FrameID of `least` or more and each
-- with a greater one than the entry before
unfoldable pub entries_at : ℕ → ℕ → Reader (List Entry)
entries_at zero least extent rest = Ok ([], rest)
entries_at (suc n) least extent rest =
    if length rest == 0 then Ok ([], rest)
    else (entry_at least extent rest >>= λ first.
    entries_at n (first.0.frame.0 + 1) extent first.1 >>= λ others.
    Ok (first.0 ∷ others.0, others.1))

unfoldable pub fields_at : Reader FrameBlock
fields_at extent rest = do
  pad ← pad_at 2 extent rest
  properties ← ruled_at 4 (within 0 1) extent pad.1
  entries ← entries_at MAX_DEMANDS MIN_FRAME extent properties.1
  Ok (record { relative = properties.0 == 1; entries = entries.0 }, entries.1)

-- a frame block off the front of the bytes that are left
abbrev pub frames_in : Reader FrameBlock
frames_in = block_at frames_id fields_at
