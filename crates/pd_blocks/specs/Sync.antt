-- PDSyncData: the one spelling of a sync block, and its reading from left to right.
use Rattle.std.specs.Prelude.{ℕ, ◌-◌, ◌%◌, List, ◌++◌, length, replicate, Ok}
use Rattle.irt_base.specs.declared.limits.TheConstants.{MAX_WINDOW, MAX_FACTOR, MAX_DOMAIN_NAME}
use Rattle.irt_base.specs.declared.blocks.SyncBlock.{SyncBlock}
use Rattle.pd_blocks.specs.declared.sync.Sending.{Sending}
use Rattle.pd_blocks.specs.declared.sync.Times.{Times}
use Rattle.pd_blocks.specs.declared.sync.Role.{Role}
use Rattle.irt_block.specs.declared.header.BlockId.{BlockId}
use Rattle.irt_block.specs.declared.bytes.ByteClass.TheVariants.{Letter}
use Rattle.irt_block.specs.Reading.{◌>>=◌, Reader, spelled, raw_at, number_at, ruled_at, within, constant_at, class_at, pad_at}
use Rattle.irt_block.specs.Header.{block_bytes, block_at}

-- ---- the spelling

abbrev pub sync_id : BlockId
sync_id = record { kind = 0x0203; high = 1; low = 2 }

-- The bytes that are wanted behind a name of so many letters to make the block's size, 53 and the name, a
-- multiple of 4: none behind 3 letters, 3 behind 4.
abbrev pub last_pad : ℕ → ℕ
last_pad letters = 3 - letters % 4

-- the fields before the name
abbrev pub front_bytes : SyncBlock → List ℕ
front_bytes b =
    replicate 2 0
    ++ b.subdomain
    ++ spelled 4 0
    ++ spelled 4 0
    ++ spelled 4 b.window
    ++ spelled 4 b.send
    ++ spelled 2 b.factor
    ++ spelled 2 b.timeout
    ++ spelled 2 b.takeover
    ++ spelled 2 b.startup
    ++ spelled 2 b.properties
    ++ spelled 1 b.priority1
    ++ spelled 1 b.priority2

-- a name's length, the name and the padding behind it
abbrev pub name_bytes : List ℕ → List ℕ
name_bytes name = spelled 1 (length name) ++ name ++ replicate (last_pad (length name)) 0

abbrev pub sync_fields_bytes : SyncBlock → List ℕ
sync_fields_bytes b = front_bytes b ++ name_bytes b.name

-- the one spelling
abbrev pub sync_bytes : SyncBlock → List ℕ
sync_bytes b = block_bytes sync_id (sync_fields_bytes b)

-- ---- the reading order

unfoldable pub sync_fields_at : Reader SyncBlock
sync_fields_at extent rest = do
  pad ← pad_at 2 extent rest
  subdomain ← raw_at 16 extent pad.1
  reserved_begin ← constant_at 4 0 extent subdomain.1
  reserved_end ← constant_at 4 0 extent reserved_begin.1
  window ← ruled_at 4 (within 0 MAX_WINDOW) extent reserved_end.1
  send ← number_at 4 extent window.1
  factor ← ruled_at 2 (within 1 MAX_FACTOR) extent send.1
  timeout ← number_at 2 extent factor.1
  takeover ← number_at 2 extent timeout.1
  startup ← number_at 2 extent takeover.1
  properties ← number_at 2 extent startup.1
  priority1 ← number_at 1 extent properties.1
  priority2 ← number_at 1 extent priority1.1
  letters ← ruled_at 1 (within 1 MAX_DOMAIN_NAME) extent priority2.1
  name ← class_at Letter letters.0 extent letters.1
  last ← pad_at (last_pad letters.0) extent name.1
  Ok (
    record {
      subdomain = subdomain.0;
      window = window.0;
      send = send.0;
      factor = factor.0;
      timeout = timeout.0;
      takeover = takeover.0;
      startup = startup.0;
      properties = properties.0;
      priority1 = priority1.0;
      priority2 = priority2.0;
      name = name.0;
    },
    last.1,
  )

-- ---- the same by groups of fields

abbrev pub domain_at : Reader (List ℕ)
domain_at extent rest = do
  pad ← pad_at 2 extent rest
  subdomain ← raw_at 16 extent pad.1
  reserved_begin ← constant_at 4 0 extent subdomain.1
  reserved_end ← constant_at 4 0 extent reserved_begin.1
  Ok (subdomain.0, reserved_end.1)

abbrev pub sending_at : Reader Sending
sending_at extent rest = do
  window ← ruled_at 4 (within 0 MAX_WINDOW) extent rest
  send ← number_at 4 extent window.1
  factor ← ruled_at 2 (within 1 MAX_FACTOR) extent send.1
  Ok (record { window = window.0; send = send.0; factor = factor.0 }, factor.1)

abbrev pub times_at : Reader Times
times_at extent rest = do
  timeout ← number_at 2 extent rest
  takeover ← number_at 2 extent timeout.1
  startup ← number_at 2 extent takeover.1
  Ok (record { timeout = timeout.0; takeover = takeover.0; startup = startup.0 }, startup.1)

abbrev pub role_at : Reader Role
role_at extent rest = do
  properties ← number_at 2 extent rest
  priority1 ← number_at 1 extent properties.1
  priority2 ← number_at 1 extent priority1.1
  Ok (record { properties = properties.0; priority1 = priority1.0; priority2 = priority2.0 }, priority2.1)

abbrev pub domain_name_at : Reader (List ℕ)
domain_name_at extent rest = do
  letters ← ruled_at 1 (within 1 MAX_DOMAIN_NAME) extent rest
  name ← class_at Letter letters.0 extent letters.1
  last ← pad_at (last_pad letters.0) extent name.1
  Ok (name.0, last.1)

abbrev pub sync_groups_at : Reader SyncBlock
sync_groups_at extent rest = do
  subdomain ← domain_at extent rest
  sending ← sending_at extent subdomain.1
  times ← times_at extent sending.1
  role ← role_at extent times.1
  name ← domain_name_at extent role.1
  Ok (
    record {
      subdomain = subdomain.0;
      window = sending.0.window;
      send = sending.0.send;
      factor = sending.0.factor;
      timeout = times.0.timeout;
      takeover = times.0.takeover;
      startup = times.0.startup;
      properties = role.0.properties;
      priority1 = role.0.priority1;
      priority2 = role.0.priority2;
      name = name.0;
    },
    name.1,
  )

-- a sync block off the front of the bytes that are left
abbrev pub sync_in : Reader SyncBlock
sync_in = block_at sync_id sync_fields_at
