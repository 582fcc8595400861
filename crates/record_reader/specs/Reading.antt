-- Reading a line from left to right. A reader answers a value and the bytes after it, or nothing where the text is not
-- of the form.
use Rattle.std.specs.Prelude.{◌≡◌, ℕ, zero, suc, ◌+◌, ◌-◌, ◌*◌, ◌%◌, ◌^◌, ◌==◌, ◌&&◌, ◌||◌, nat_le, nat_lt, ℤ, pos, negsuc, Bool, true, false, if◌then◌else◌, List, [], ◌∷◌, ◌++◌, length, take, drop, decimal, bytes_eq, Option, Some, None, Result, Ok, Err, position, unwrap_or}
use Rattle.std.specs.Str.Parse.{digits_value}
use Rattle.cycle_rows.specs.declared.rows.JournalRow.{JournalRow}
use Rattle.cycle_rows.specs.declared.rows.JournalRow.TheVariants.{Occupy, Deliver, Missed, Sent, Refused, Lost, Came}
use Rattle.io_buffers.specs.Given.{given}
use Rattle.io_buffers.specs.declared.taken.Taken.{Taken}
use Rattle.irt_base.specs.Text.{frame_text, hex_digits}
use Rattle.irt_base.specs.declared.numbers.DevId.{DevId}
use Rattle.irt_base.specs.declared.numbers.FrameId.{FrameId}
use Rattle.irt_base.specs.declared.numbers.PortNo.{PortNo}
use Rattle.irt_base.specs.declared.plants.Device.{Device}
use Rattle.irt_base.specs.declared.plants.Plant.{Plant}
use Rattle.plant_rules.specs.Words.{consumes, provides, words_where}
use Rattle.record_laws.specs.declared.line.Line.{Line}
use Rattle.record_laws.specs.declared.line.Line.TheVariants as says
use Rattle.record_reader.specs.declared.fault.Form.{Form}
use Rattle.record_reader.specs.declared.fault.LineFault.{LineFault}
use Rattle.record_reader.specs.declared.fault.LineFault.TheVariants as faults

-- the first step, and if it succeeds the next
infixl 10 ◌>>=◌
abbrev pub ◌>>=◌ : {A B : Type 0} → Option A → (A → Option B) → Option B
(Some x) >>= f = f x
None >>= f = None

-- What a function returned, seen by view, is what reading gives.
abbrev pub GivesForm : {X Y : Type 0} → (X → Y) → Result X Form → Option Y → Type 0
GivesForm view (Ok x) read = read ≡ Some (view x)
GivesForm view (Err e) read = read ≡ None

-- The same of a function that takes memory: or memory ran out.
abbrev pub Gives : {X Y : Type 0} → (X → Y) → Result X LineFault → Option Y → Type 0
Gives view (Ok x) read = read ≡ Some (view x)
Gives view (Err faults.NoMemory) read = Unit {0}
Gives view (Err faults.Form) read = read ≡ None

-- ---- fields

-- the bytes after one that comes first
abbrev pub after_byte : ℕ → List ℕ → Option (List ℕ)
after_byte byte [] = None
after_byte byte (b ∷ bs) = if b == byte then Some bs else None

-- a space, a line feed or a colon
abbrev pub ends_field : ℕ → Bool
ends_field b = (b == 32) || (b == 10) || (b == 58)

-- how many bytes stand before one that ends a field
abbrev pub field_length : List ℕ → ℕ
field_length bytes = unwrap_or (position ends_field bytes) (length bytes)

-- what stands between a space and the end of the field, and the bytes from there
unfoldable pub token_read : List ℕ → Option (List ℕ × List ℕ)
token_read bytes = after_byte 32 bytes >>= λ rest. Some (take (field_length rest) rest, drop (field_length rest) rest)

-- the number of 64 bits that a text is, in decimal digits as they are printed
unfoldable pub number_of : List ℕ → Option ℕ
number_of text =
    if nat_lt (digits_value 10 text) (2 ^ 64) && bytes_eq text (decimal (digits_value 10 text)) then Some (digits_value 10 text) else None

abbrev pub number_up_to : ℕ → List ℕ → Option ℕ
number_up_to max text = number_of text >>= λ n. if nat_le n max then Some n else None

abbrev pub number_read : ℕ → List ℕ → Option (ℕ × List ℕ)
number_read max bytes = token_read bytes >>= λ x. number_up_to max x.0 >>= λ n. Some (n, x.1)

-- what a size is with a minus: there is no -0
abbrev pub negated : ℕ → Option ℤ
negated zero = None
negated (suc n) = Some (negsuc n)

-- a time of 64 bits
unfoldable pub time_of : List ℕ → Option ℤ
time_of [] = None
time_of (b ∷ bs) =
    if b == 45 then number_up_to (2 ^ 63) bs >>= negated else (number_up_to (2 ^ 63 - 1) (b ∷ bs) >>= λ n. Some (pos n))

abbrev pub time_read : List ℕ → Option (ℤ × List ℕ)
time_read bytes = token_read bytes >>= λ x. time_of x.0 >>= λ time. Some (time, x.1)

-- the value of a hexadecimal digit; of another byte nothing is said
abbrev pub digit_of : ℕ → ℕ
digit_of b = if nat_le 97 b then (b + 9) % 16 else b % 16

-- the last sixteen digits of a text after a value
unfoldable pub hex_value : ℕ → List ℕ → ℕ
hex_value value [] = value
hex_value value (b ∷ bs) = hex_value (value % 2 ^ 60 * 16 + digit_of b) bs

-- the word that a text of sixteen digits is
unfoldable pub word_of : List ℕ → Option ℕ
word_of text = if bytes_eq text (hex_digits 16 (hex_value 0 text)) then Some (hex_value 0 text) else None

abbrev pub word_read : List ℕ → Option (ℕ × List ℕ)
word_read bytes = token_read bytes >>= λ x. word_of x.0 >>= λ word. Some (word, x.1)

-- the FrameID that a text is
abbrev pub frame_value : List ℕ → ℕ
frame_value text = hex_value 0 (drop 2 text) % 2 ^ 16

unfoldable pub frame_of : List ℕ → Option FrameId
frame_of text = if bytes_eq text (frame_text (frame_value text)) then Some (record { 0 = frame_value text }) else None

abbrev pub frame_read : List ℕ → Option (FrameId × List ℕ)
frame_read bytes = token_read bytes >>= λ x. frame_of x.0 >>= λ frame. Some (frame, x.1)

abbrev pub flag_of : List ℕ → Option Bool
flag_of text = if bytes_eq text (49 ∷ []) then Some true else (if bytes_eq text (48 ∷ []) then Some false else None)

abbrev pub flag_read : List ℕ → Option (Bool × List ℕ)
flag_read bytes = token_read bytes >>= λ x. flag_of x.0 >>= λ flag. Some (flag, x.1)

-- the first device of a name
abbrev pub device_of_name : Plant → List ℕ → Option DevId
device_of_name plant name = position (λ (d : Device). bytes_eq d.name name) plant.devices >>= λ n. Some (record { 0 = n })

abbrev pub device_read : Plant → List ℕ → Option (DevId × List ℕ)
device_read plant bytes = token_read bytes >>= λ x. device_of_name plant x.0 >>= λ device. Some (device, x.1)

-- the answer of a take
unfoldable pub taken_read : List ℕ → Option (Taken × List ℕ)
taken_read bytes = do
  number ← number_read (2 ^ 64 - 1) bytes
  fresh ← flag_read number.1
  window ← flag_read fresh.1
  Some (record { number = number.0; fresh = fresh.0; in_window = window.0 }, window.1)

-- so many more words
abbrev pub words_read : ℕ → List ℕ → List ℕ → Option (List ℕ × List ℕ)
words_read zero words bytes = Some (words, bytes)
words_read (suc count) words bytes = word_read bytes >>= λ x. words_read count (words ++ x.0 ∷ []) x.1

-- the cycle and the device of a line
unfoldable pub begin_read : Plant → List ℕ → Option ((ℕ × DevId) × List ℕ)
begin_read plant bytes = do
  cycle ← number_read (2 ^ 32 - 1) bytes
  device ← device_read plant cycle.1
  Some ((cycle.0, device.0), device.1)

-- ---- lines, after their letter

-- how many words the app of a device puts out in a turn, and takes in
abbrev pub output_words : Plant → DevId → ℕ
output_words plant device = words_where (provides device.0) plant.demands

abbrev pub input_words : Plant → DevId → ℕ
input_words plant device = words_where (consumes device.0) plant.demands

unfoldable pub take_read : Plant → List ℕ → Option (Line × List ℕ)
take_read plant bytes = do
  begin ← begin_read plant bytes
  taken ← taken_read begin.1
  words ← words_read (output_words plant begin.0.1) [] taken.1
  rest ← after_byte 10 words.1
  Some (says.Take begin.0.0 begin.0.1 (given taken.0 words.0), rest)

unfoldable pub image_read : Plant → List ℕ → Option (Line × List ℕ)
image_read plant bytes = do
  begin ← begin_read plant bytes
  words ← words_read (input_words plant begin.0.1) [] begin.1
  rest ← after_byte 10 words.1
  Some (says.Image begin.0.0 begin.0.1 words.0, rest)

-- a turn without its words
unfoldable pub turn_begin_read : List ℕ → Option ((ℕ × ℕ × Taken) × List ℕ)
turn_begin_read bytes = do
  number ← number_read (2 ^ 64 - 1) bytes
  found ← number_read (2 ^ 32 - 1) number.1
  taken ← taken_read found.1
  Some ((number.0, found.0, taken.0), taken.1)

-- its input and its output
unfoldable pub turn_words_read : Plant → DevId → List ℕ → Option ((List ℕ × List ℕ) × List ℕ)
turn_words_read plant device bytes = do
  input ← words_read (input_words plant device) [] bytes
  space ← after_byte 32 input.1
  colon ← after_byte 58 space
  output ← words_read (output_words plant device) [] colon
  rest ← after_byte 10 output.1
  Some ((input.0, output.0), rest)

unfoldable pub turn_read : Plant → List ℕ → Option (Line × List ℕ)
turn_read plant bytes = do
  device ← device_read plant bytes
  begin ← turn_begin_read device.1
  words ← turn_words_read plant device.0 begin.1
  Some (says.Turn device.0 begin.0.0 (record { found = begin.0.1; taken = begin.0.2; input = words.0.0; output = words.0.1 }), words.1)

unfoldable pub last_read : List ℕ → Option (Line × List ℕ)
last_read bytes = do
  n ← after_byte 110 bytes
  d ← after_byte 100 n
  cycles ← number_read (2 ^ 32 - 1) d
  occupied ← number_read (2 ^ 64 - 1) cycles.1
  delivered ← number_read (2 ^ 64 - 1) occupied.1
  dropped ← number_read (2 ^ 64 - 1) delivered.1
  rest ← after_byte 10 dropped.1
  Some (says.Last cycles.0 occupied.0 delivered.0 dropped.0, rest)

-- ---- rows, after letter, cycle and device

abbrev pub port_read : List ℕ → Option (PortNo × List ℕ)
port_read bytes = number_read (2 ^ 8 - 1) bytes >>= λ x. Some (record { 0 = x.0 }, x.1)

-- a traffic entry, and which of its parcels
unfoldable pub parcel_read : List ℕ → Option ((ℕ × ℕ) × List ℕ)
parcel_read bytes = do
  traffic ← number_read (2 ^ 16 - 1) bytes
  serial ← number_read (2 ^ 32 - 1) traffic.1
  Some ((traffic.0, serial.0), serial.1)

-- two times, and the line's end
unfoldable pub times_read : List ℕ → Option ((ℤ × ℤ) × List ℕ)
times_read bytes = do
  start ← time_read bytes
  end ← time_read start.1
  rest ← after_byte 10 end.1
  Some ((start.0, end.0), rest)

unfoldable pub occupy_read : ℕ → DevId → List ℕ → Option (JournalRow × List ℕ)
occupy_read cycle device bytes = do
  port ← port_read bytes
  frame ← frame_read port.1
  times ← times_read frame.1
  Some (Occupy cycle device port.0 frame.0 times.0.0 times.0.1, times.1)

unfoldable pub deliver_read : ℕ → DevId → List ℕ → Option (JournalRow × List ℕ)
deliver_read cycle device bytes = do
  frame ← frame_read bytes
  end ← time_read frame.1
  rest ← after_byte 10 end.1
  Some (Deliver cycle device frame.0 end.0, rest)

-- the bytes after some that come first
abbrev pub after_bytes : List ℕ → List ℕ → Option (List ℕ)
after_bytes [] bytes = Some bytes
after_bytes (b ∷ bs) bytes = after_byte b bytes >>= after_bytes bs

unfoldable pub missed_read : ℕ → DevId → List ℕ → Option (JournalRow × List ℕ)
missed_read cycle device bytes = do
  frame ← frame_read bytes
  rest ← after_bytes (32 ∷ 115 ∷ 116 ∷ 101 ∷ 112 ∷ 10 ∷ []) frame.1
  Some (Missed cycle device frame.0, rest)

unfoldable pub sent_read : ℕ → DevId → List ℕ → Option (JournalRow × List ℕ)
sent_read cycle device bytes = do
  port ← port_read bytes
  parcel ← parcel_read port.1
  times ← times_read parcel.1
  Some (Sent cycle device port.0 parcel.0.0 parcel.0.1 times.0.0 times.0.1, times.1)

-- a port, a parcel and the line's end
unfoldable pub queue_read : List ℕ → Option ((PortNo × ℕ × ℕ) × List ℕ)
queue_read bytes = do
  port ← port_read bytes
  parcel ← parcel_read port.1
  rest ← after_byte 10 parcel.1
  Some ((port.0, parcel.0.0, parcel.0.1), rest)

abbrev pub refused_read : ℕ → DevId → List ℕ → Option (JournalRow × List ℕ)
refused_read cycle device bytes = queue_read bytes >>= λ x. Some (Refused cycle device x.0.0 x.0.1 x.0.2, x.1)

abbrev pub lost_read : ℕ → DevId → List ℕ → Option (JournalRow × List ℕ)
lost_read cycle device bytes = queue_read bytes >>= λ x. Some (Lost cycle device x.0.0 x.0.1 x.0.2, x.1)

unfoldable pub came_read : ℕ → DevId → List ℕ → Option (JournalRow × List ℕ)
came_read cycle device bytes = do
  parcel ← parcel_read bytes
  rest ← after_byte 10 parcel.1
  Some (Came cycle device parcel.0.0 parcel.0.1, rest)

-- a row of this letter
abbrev pub row_rest_read : ℕ → ℕ → DevId → List ℕ → Option (JournalRow × List ℕ)
row_rest_read letter cycle device bytes =
    if letter == 111 then occupy_read cycle device bytes else (if letter == 100 then deliver_read cycle device bytes else
    (if letter == 120 then missed_read cycle device bytes else (if letter == 116 then sent_read cycle device bytes else
    (if letter == 113 then refused_read cycle device bytes else (if letter == 108 then lost_read cycle device bytes else
    (if letter == 97 then came_read cycle device bytes else None))))))

unfoldable pub row_read : Plant → ℕ → List ℕ → Option (JournalRow × List ℕ)
row_read plant letter bytes = begin_read plant bytes >>= λ x. row_rest_read letter x.0.0 x.0.1 x.1

abbrev pub row_line_read : Plant → ℕ → List ℕ → Option (Line × List ℕ)
row_line_read plant letter bytes = row_read plant letter bytes >>= λ x. Some (says.Row x.0, x.1)

-- ---- a line

abbrev pub line_of_letter : Plant → ℕ → List ℕ → Option (Line × List ℕ)
line_of_letter plant letter bytes =
    if letter == 103 then take_read plant bytes else (if letter == 105 then image_read plant bytes else
    (if letter == 117 then turn_read plant bytes else (if letter == 101 then last_read bytes else row_line_read plant letter bytes)))

abbrev pub line_read : Plant → List ℕ → Option (Line × List ℕ)
line_read plant [] = None
line_read plant (letter ∷ bytes) = line_of_letter plant letter bytes
