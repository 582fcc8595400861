-- The spellings of bundles fit a device's file.
use Rattle.std.proofs.Common.{◌≤◌, ◌<◌, ◌+◌, ℕ, zero, suc, List, [], ◌∷◌, ◌++◌, length, replicate, lit<, Option, Some, length-append, arith}
use Rattle.std.specs.Int.{byte_at, bytes_high_first}
use Rattle.std.specs.List.{AllByRecursion, flat_map}
use Rattle.irt_base.specs.Valid.{IsBundle, IsSyncBlock, IsGlobalBlock, IsDomainByte, AreBytes}
use Rattle.irt_base.specs.declared.limits.TheConstants.{DEVICE_FILE, PHASES}
use Rattle.irt_base.specs.declared.blocks.Entry.{Entry}
use Rattle.irt_base.specs.declared.blocks.FrameBlock.{FrameBlock}
use Rattle.irt_base.specs.declared.blocks.GlobalBlock.{GlobalBlock}
use Rattle.irt_base.specs.declared.blocks.Period.{Period}
use Rattle.irt_base.specs.declared.blocks.PeriodBlock.{PeriodBlock}
use Rattle.irt_base.specs.declared.blocks.PortPeriods.{PortPeriods}
use Rattle.irt_base.specs.declared.blocks.SyncBlock.{SyncBlock}
use Rattle.irt_base.specs.declared.blocks.Bundle.{Bundle}
use Rattle.irt_block.specs.Header.{header_bytes, block_bytes}
use Rattle.irt_block.specs.Reading.{spelled}
use Rattle.irt_block.specs.declared.header.BlockId.{BlockId}
use Rattle.irt_bundle.proofs.Laws.{length-whole, length-data, data_valid}
use Rattle.irt_bundle.specs.Bundles.{bundle_bytes, data_id, data_fields_bytes, data_bytes, data_of}
use Rattle.irt_io.specs.Files.{Files}
use Rattle.irt_steps.specs.Steps.{Holds}
use Rattle.pd_blocks.proofs.SyncLaws.{sync_fits_block}
use Rattle.pd_blocks.specs.Global.{global_id, port_bytes, global_fields_bytes, global_bytes}
use Rattle.pd_blocks.specs.Sync.{sync_id, last_pad, sync_fields_bytes, sync_bytes}
use Rattle.pdir_begin_end.specs.Periods as periods
use Rattle.pdir_begin_end.specs.Periods.{periods_id, assignment_bytes, phase_bytes, periods_bytes}
use Rattle.pdir_frame.specs.Frames as frames
use Rattle.pdir_frame.specs.Frames.{frames_id, entry_bytes, properties_of, frame_bytes}
use Rattle.pdir_frame.specs.declared.entry.TheConstants.{ETHERTYPE, FRAME_DETAILS, TX_PORT_GROUPS}
use Rattle.irt_top.specs.DeviceFiles.{IsBundleFile}

-- at most 65539 and 13560 bytes
length-bundle : (b : Bundle) → IsBundle b → length (bundle_bytes b) ≤ DEVICE_FILE
length-bundle b valid =
    let sync = (sync_fits_block b.sync valid.sync).1 in
    omega (
      arith,
      sync,
      length-append (sync_bytes b.sync) (data_bytes (data_of b)),
      length-whole sync_id (sync_fields_bytes b.sync),
      length-whole data_id (data_fields_bytes (data_of b)),
      length-data (data_of b) (data_valid b valid),
    )

-- ---- bytes

join : (xs ys : List ℕ) → AreBytes xs → AreBytes ys → AreBytes (xs ++ ys)
join [] ys first second = second
join (x ∷ xs) ys first second = (first.0, join xs ys first.1 second)

zeros : (n : ℕ) → AreBytes (replicate n 0)
zeros zero = tt
zeros (suc n) = (lit< tt, zeros n)

byte_small : (k x : ℕ) → byte_at k x < 256
byte_small zero x = omega arith
byte_small (suc k) x = omega arith

high_first : (n x : ℕ) → AreBytes (bytes_high_first n x)
high_first zero x = tt
high_first (suc k) x = (byte_small k x, high_first k x)

number : (n x : ℕ) → AreBytes (spelled n x)
unfolding spelled
number n x = high_first n x

each : {A : Type 0} (spell : A → List ℕ) (xs : List A) → ((x : A) → AreBytes (spell x)) → AreBytes (flat_map spell xs)
each spell [] bytes = tt
each spell (x ∷ xs) bytes = (join (spell x) (flat_map spell xs) (bytes x) (each spell xs bytes))

whole : (id : BlockId) (fields : List ℕ) → id.high < 256 → id.low < 256 → AreBytes fields → AreBytes (block_bytes id fields)
whole id fields high low bytes =
    join (header_bytes id (length fields + 2)) fields
    (join (spelled 2 id.kind ++ spelled 2 (length fields + 2)) (id.high ∷ id.low ∷ [])
    (join (spelled 2 id.kind) (spelled 2 (length fields + 2)) (number 2 id.kind) (number 2 (length fields + 2))) (high, (low, tt))) bytes

-- bytes one after the other
record Bytes : Type 0 where
  items : List ℕ
  are : AreBytes items

abbrev these : (items : List ℕ) → AreBytes items → Bytes
these items are = record { items = items; are = are }

abbrev numbered : ℕ → ℕ → Bytes
numbered n x = these (spelled n x) (number n x)

abbrev with : Bytes → Bytes → Bytes
with a b = these (a.items ++ b.items) (join a.items b.items a.are b.are)

letter : (b : ℕ) → IsDomainByte b → b < 256
letter b is = grind arith

letters : (name : List ℕ) → AllByRecursion IsDomainByte name → AreBytes name
letters [] all = tt
letters (b ∷ name) all = (letter b all.0, letters name all.1)

sync_small : (b : SyncBlock) → IsSyncBlock b → AreBytes (sync_bytes b)
sync_small b valid =
    let front =
    with (with (with (with (with (with (with (with (with (with (with (with (these (replicate 2 0) (zeros 2)) (these b.subdomain valid.subdomain.1))
    (numbered 4 0)) (numbered 4 0)) (numbered 4 b.window)) (numbered 4 b.send)) (numbered 2 b.factor)) (numbered 2 b.timeout)) (numbered 2 b.takeover))
    (numbered 2 b.startup)) (numbered 2 b.properties)) (numbered 1 b.priority1)) (numbered 1 b.priority2) in
    let name = with (with (numbered 1 (length b.name)) (these b.name (letters b.name valid.letters)))
    (these (replicate (last_pad (length b.name)) 0) (zeros (last_pad (length b.name)))) in
    whole sync_id (sync_fields_bytes b) (lit< tt) (lit< tt) (with front name).are

global_small : (b : GlobalBlock) → IsGlobalBlock b → AreBytes (global_bytes b)
global_small b valid =
    whole global_id (global_fields_bytes b) (lit< tt) (lit< tt)
    (with (with (with (with (these (replicate 2 0) (zeros 2)) (these b.uuid valid.uuid.1)) (numbered 4 b.bridge)) (numbered 4 (length b.ports)))
    (these (flat_map port_bytes b.ports) (each port_bytes b.ports (λ p. (with (numbered 4 p.tx) (numbered 4 p.rx)).are)))).are

entry_small : (e : Entry) → AreBytes (entry_bytes e)
entry_small e =
    (with (with (with (with (with (with (with (with (with (with (numbered 4 e.send_offset) (numbered 2 e.data_length)) (numbered 2 e.ratio)) (numbered 2 e.phase))
    (numbered 2 e.frame.0)) (numbered 2 ETHERTYPE)) (numbered 1 e.rx_port)) (numbered 1 FRAME_DETAILS)) (numbered 1 TX_PORT_GROUPS)) (numbered 1 e.tx))
    (these (replicate 2 0) (zeros 2))).are

frames_small : (b : FrameBlock) → AreBytes (frame_bytes b)
frames_small b =
    whole frames_id (frames.fields_bytes b) (lit< tt) (lit< tt)
    (with (with (these (replicate 2 0) (zeros 2)) (numbered 4 (properties_of b.relative)))
    (these (flat_map entry_bytes b.entries) (each entry_bytes b.entries entry_small))).are

period_small : (p : Period) → Bytes
period_small p = with (with (numbered 4 p.red) (numbered 4 p.orange)) (numbered 4 p.green)

ports_small : (p : PortPeriods) → AreBytes (periods.port_bytes p)
unfolding period_small
ports_small p =
    (with (with (with (numbered 4 (length p.assignments))
    (these (flat_map assignment_bytes p.assignments) (each assignment_bytes p.assignments (λ a. (with (period_small a.tx) (period_small a.rx)).are))))
    (numbered 4 PHASES)) (these (flat_map phase_bytes p.phases) (each phase_bytes p.phases (λ pair. (with (numbered 2 pair.tx) (numbered 2 pair.rx)).are)))).are

periods_small : (b : PeriodBlock) → AreBytes (periods_bytes b)
periods_small b =
    whole periods_id (periods.fields_bytes b) (lit< tt) (lit< tt)
    (with (with (with (with (these (replicate 2 0) (zeros 2)) (numbered 2 b.first)) (numbered 2 b.last)) (numbered 4 (length b.ports)))
    (these (flat_map periods.port_bytes b.ports) (each periods.port_bytes b.ports ports_small))).are

small : (b : Bundle) → IsBundle b → AreBytes (bundle_bytes b)
small b valid =
    join (sync_bytes b.sync) (data_bytes (data_of b)) (sync_small b.sync valid.sync)
    (whole data_id (data_fields_bytes (data_of b)) (lit< tt) (lit< tt)
    (with (with (with (with (with (these (replicate 2 0) (zeros 2)) (numbered 2 b.slot)) (numbered 2 b.subslot))
    (these (global_bytes b.global) (global_small b.global valid.global))) (these (frame_bytes b.frames) (frames_small b.frames)))
    (these (periods_bytes b.periods) (periods_small b.periods))).are)

-- a name that holds the spelling of a bundle is its file
pub spelled_held : (files : Option Files) (name : List ℕ) (b : Bundle) → IsBundle b → Holds files name (Some (bundle_bytes b)) → IsBundleFile files name b
spelled_held files name b valid held =
    record { valid = valid; held = record { held = held; within = length-bundle b valid; small = small b valid } }
