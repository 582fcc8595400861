-- Why bytes are no frame.
use Rattle.std.specs.Prelude.{ℕ, ◌+◌, ◌-◌, ◌==◌, ◌%◌, Bool, not, ◌&&◌, nat_lt, nat_le, if◌then◌else◌, List, length, drop, slice_index, Option, Some, None}
use Rattle.byteorder.specs.Endian.{big_number}
use Rattle.irt_base.specs.declared.limits.TheConstants.{MIN_DATA, MAX_DATA, DATA_STEP, MIN_FRAME, MAX_RED_FRAME}
use Rattle.rtc3_frame.specs.declared.frame.TheConstants.{ETHERTYPE, HEAD, TAIL}
use Rattle.rtc3_frame.specs.declared.fault.FrameFault.{FrameFault}
use Rattle.rtc3_frame.specs.declared.fault.FrameFault.TheVariants.{Short, BadLength, BadEthertype, BadFrameId, BadTransfer}

-- how many of so many bytes are data
abbrev pub data_length : ℕ → ℕ
data_length count = count - (HEAD + TAIL)

-- a length of at most 1460 bytes whose data are a multiple of 8 bytes
abbrev pub length_fits : ℕ → Bool
length_fits count = nat_le (data_length count) MAX_DATA && (data_length count % DATA_STEP == 0)

abbrev pub ethertype_fits : List ℕ → Bool
ethertype_fits bytes = big_number 2 (drop 12 bytes) == ETHERTYPE

abbrev pub frame_fits : ℕ → Bool
frame_fits frame = nat_le MIN_FRAME frame && nat_le frame MAX_RED_FRAME

abbrev pub transfer_fits : List ℕ → Bool
transfer_fits bytes = slice_index bytes (length bytes - 1) == 0

-- the first cause for which the bytes are no frame
abbrev pub fault_of : List ℕ → Option FrameFault
fault_of bytes =
    if nat_lt (length bytes) (HEAD + MIN_DATA + TAIL) then Some Short else
    if not (length_fits (length bytes)) then Some BadLength else
    if not (ethertype_fits bytes) then Some BadEthertype else
    if not (frame_fits (big_number 2 (drop 14 bytes))) then Some BadFrameId else
    if not (transfer_fits bytes) then Some BadTransfer else
    None
