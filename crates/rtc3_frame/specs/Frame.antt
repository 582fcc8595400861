-- A frame of RT_CLASS_3 as it is laid out.
use Rattle.std.specs.Prelude.{◌≡◌, ℕ, ◌<◌, ◌^◌, List, [], ◌∷◌, ◌++◌, length, take, drop, slice_index, ◌+◌, ◌-◌, Result}
use Rattle.byteorder.specs.Endian.{big_bytes, big_number}
use Rattle.byte_laws.specs.Spelling.{unless_fault}
use Rattle.irt_base.specs.Valid.{IsWithin, IsDataLength}
use Rattle.irt_base.specs.declared.limits.TheConstants.{MIN_FRAME, MAX_RED_FRAME}
use Rattle.rtc3_frame.specs.declared.frame.TheConstants.{ETHERTYPE, HEAD, TAIL}
use Rattle.rtc3_frame.specs.declared.fault.FrameFault.{FrameFault}
use Rattle.rtc3_frame.specs.declared.frame.Rtc3.{Rtc3}
use Rattle.rtc3_frame.specs.Fault.{fault_of}

-- the fields that are read or written; addresses and data are bytes
pub record Fields : Type 0 where
  pub destination : List ℕ
  pub source : List ℕ
  pub frame : ℕ
  pub csdu : List ℕ
  pub counter : ℕ
  pub status : ℕ

-- the bytes of these fields, in order; the last one is the transfer status
abbrev pub frame_bytes : Fields → List ℕ
frame_bytes f =
    f.destination
    ++ (f.source ++ (big_bytes 2 ETHERTYPE ++ (big_bytes 2 f.frame ++ (f.csdu ++ (big_bytes 2 f.counter ++ f.status ∷ 0 ∷ [])))))

-- the fields at their places of so many bytes
abbrev pub placed_fields : List ℕ → Fields
placed_fields bytes = record {
  destination = take 6 bytes;
  source = take 6 (drop 6 bytes);
  frame = big_number 2 (drop 14 bytes);
  csdu = take (length bytes - (HEAD + TAIL)) (drop HEAD bytes);
  counter = big_number 2 (drop (length bytes - TAIL) bytes);
  status = slice_index bytes (length bytes - 2);
}

-- the fields of the frame that bytes are, or the first cause for which they are none
abbrev pub fields_at : List ℕ → Result Fields FrameFault
fields_at bytes = unless_fault (fault_of bytes) (placed_fields bytes)

-- which fields a frame may have
pub record IsFrame (f : Fields) : Type 0 where
  pub destination : length f.destination ≡ 6
  pub source : length f.source ≡ 6
  pub frame : IsWithin MIN_FRAME MAX_RED_FRAME f.frame
  pub csdu : IsDataLength (length f.csdu)
  pub counter : f.counter < 2 ^ 16
  pub status : f.status < 2 ^ 8

-- these bytes are a frame with these fields
pub record Spells (bytes : List ℕ) (f : Fields) : Type 0 where
  pub valid : IsFrame f
  pub layout : bytes ≡ frame_bytes f

-- the fields of a frame that was read
abbrev pub fields_of : Rtc3 → Fields
fields_of r = record {
  destination = r.destination;
  source = r.source;
  frame = r.frame.0;
  csdu = r.csdu.now;
  counter = r.counter;
  status = r.status;
}

-- The fields of a frame that a device sends. The destination is a group address with the FrameID in its
-- last two bytes, the source a local address with the device's number in its last byte.
abbrev pub sent_fields : ℕ → ℕ → List ℕ → ℕ → ℕ → Fields
sent_fields frame device csdu counter status = record {
  destination = 3 ∷ 0 ∷ 0 ∷ 0 ∷ big_bytes 2 frame;
  source = 2 ∷ 0 ∷ 0 ∷ 0 ∷ 0 ∷ device ∷ [];
  frame = frame;
  csdu = csdu;
  counter = counter;
  status = status;
}

-- the bytes that a device sends before its data
abbrev pub head_bytes : ℕ → ℕ → List ℕ
head_bytes frame device = (3 ∷ 0 ∷ 0 ∷ 0 ∷ big_bytes 2 frame) ++ ((2 ∷ 0 ∷ 0 ∷ 0 ∷ 0 ∷ device ∷ []) ++ (big_bytes 2 ETHERTYPE ++ big_bytes 2 frame))

-- the bytes behind the data
abbrev pub tail_bytes : ℕ → ℕ → List ℕ
tail_bytes counter status = big_bytes 2 counter ++ status ∷ 0 ∷ []
