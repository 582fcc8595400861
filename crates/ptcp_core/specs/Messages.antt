-- Messages as they are laid out, and why bytes are none.
use Rattle.std.specs.Prelude.{◌≡◌, ℕ, ◌<◌, ◌^◌, ◌==◌, Bool, ◌&&◌, nat_lt, if◌then◌else◌, List, ◌∷◌, ◌++◌, length, drop, slice_index, Option, Some, None, Result}
use Rattle.byteorder.specs.Endian.{big_bytes, big_number}
use Rattle.byte_laws.specs.Spelling.{unless_fault}
use Rattle.ptcp_core.specs.declared.messages.TheConstants.{TIME_END, SYNC, REQUEST, RESPONSE, SYNC_SIZE, REQUEST_SIZE, RESPONSE_SIZE}
use Rattle.ptcp_core.specs.declared.messages.SyncMsg.{SyncMsg}
use Rattle.ptcp_core.specs.declared.messages.DelayReq.{DelayReq}
use Rattle.ptcp_core.specs.declared.messages.DelayRes.{DelayRes}
use Rattle.ptcp_core.specs.declared.messages.Msg.{Msg}
use Rattle.ptcp_core.specs.declared.messages.Msg.TheVariants as kinds
use Rattle.ptcp_core.specs.declared.messages.MsgFault.{MsgFault}
use Rattle.ptcp_core.specs.declared.messages.MsgFault.TheVariants.{Empty, BadType, BadSize, BadPad, BadTime}

abbrev pub sync_bytes : SyncMsg → List ℕ
sync_bytes m =
    SYNC ∷ m.hops ∷ 0 ∷ 0 ∷ (big_bytes 4 m.number ++ (big_bytes 4 m.cycle ++ (big_bytes 8 m.origin ++ big_bytes 8 m.correction)))

abbrev pub request_bytes : DelayReq → List ℕ
request_bytes m = REQUEST ∷ 0 ∷ big_bytes 2 m.number

abbrev pub response_bytes : DelayRes → List ℕ
response_bytes m = RESPONSE ∷ 0 ∷ (big_bytes 2 m.number ++ (big_bytes 8 m.t2 ++ big_bytes 8 m.t3))

-- the bytes of a message
abbrev pub msg_bytes : Msg → List ℕ
msg_bytes (kinds.Sync m) = sync_bytes m
msg_bytes (kinds.Request m) = request_bytes m
msg_bytes (kinds.Response m) = response_bytes m

-- its times are times
abbrev pub AreTimes : Msg → Type 0
AreTimes (kinds.Sync m) = (m.origin < TIME_END) × (m.correction < TIME_END)
AreTimes (kinds.Request m) = Unit {0}
AreTimes (kinds.Response m) = (m.t2 < TIME_END) × (m.t3 < TIME_END)

-- its other fields have their sizes
abbrev pub AreSized : Msg → Type 0
AreSized (kinds.Sync m) = (m.hops < 2 ^ 8) × (m.number < 2 ^ 32) × (m.cycle < 2 ^ 32)
AreSized (kinds.Request m) = m.number < 2 ^ 16
AreSized (kinds.Response m) = m.number < 2 ^ 16

-- its fields have their ranges
abbrev pub IsMsg : Msg → Type 0
IsMsg m = AreTimes m × AreSized m

-- these bytes are the message's
pub record Spells (bytes : List ℕ) (m : Msg) : Type 0 where
  pub times : AreTimes m
  pub sized : AreSized m
  pub layout : bytes ≡ msg_bytes m

-- the fields at their places
abbrev pub sync_at : List ℕ → SyncMsg
sync_at bytes = record {
  number = big_number 4 (drop 4 bytes);
  cycle = big_number 4 (drop 8 bytes);
  hops = slice_index bytes 1;
  origin = big_number 8 (drop 12 bytes);
  correction = big_number 8 (drop 20 bytes);
}

abbrev pub request_at : List ℕ → DelayReq
request_at bytes = record { number = big_number 2 (drop 2 bytes) }

abbrev pub response_at : List ℕ → DelayRes
response_at bytes = record { number = big_number 2 (drop 2 bytes); t2 = big_number 8 (drop 4 bytes); t3 = big_number 8 (drop 12 bytes) }

abbrev pub placed_msg : List ℕ → Msg
placed_msg bytes =
    if slice_index bytes 0 == SYNC then kinds.Sync (sync_at bytes) else
    if slice_index bytes 0 == REQUEST then kinds.Request (request_at bytes) else
    kinds.Response (response_at bytes)

-- a fault where a test fails, else another one
abbrev pub unless : Bool → MsgFault → Option MsgFault → Option MsgFault
unless test fault other = if test then other else Some fault

-- the first cause for which bytes of each type are no message
abbrev pub sync_fault : List ℕ → Option MsgFault
sync_fault bytes =
    unless (length bytes == SYNC_SIZE) BadSize
    (unless ((slice_index bytes 2 == 0) && (slice_index bytes 3 == 0)) BadPad
    (unless (nat_lt (sync_at bytes).origin TIME_END && nat_lt (sync_at bytes).correction TIME_END) BadTime None))

abbrev pub request_fault : List ℕ → Option MsgFault
request_fault bytes = unless (length bytes == REQUEST_SIZE) BadSize (unless (slice_index bytes 1 == 0) BadPad None)

abbrev pub response_fault : List ℕ → Option MsgFault
response_fault bytes =
    unless (length bytes == RESPONSE_SIZE) BadSize
    (unless (slice_index bytes 1 == 0) BadPad
    (unless (nat_lt (response_at bytes).t2 TIME_END && nat_lt (response_at bytes).t3 TIME_END) BadTime None))

-- the first cause for which bytes are no message
abbrev pub msg_fault : List ℕ → Option MsgFault
msg_fault bytes =
    if length bytes == 0 then Some Empty else
    if slice_index bytes 0 == SYNC then sync_fault bytes else
    if slice_index bytes 0 == REQUEST then request_fault bytes else
    if slice_index bytes 0 == RESPONSE then response_fault bytes else
    Some BadType

-- the message that bytes are, or the first cause for which they are none
abbrev pub msg_at : List ℕ → Result Msg MsgFault
msg_at bytes = unless_fault (msg_fault bytes) (placed_msg bytes)
