-- The text of a journal. Fields are separated by one space, and each line ends with a line feed.
use Rattle.std.specs.Prelude.{ℕ, List, [], ◌∷◌, ◌++◌, codes, decimal, ℤ, option_map, slice_get, unwrap_or}
use Rattle.std.specs.Fmt.{signed_decimal}
use Rattle.std.specs.List.{flat_map}
use Rattle.irt_base.specs.Text.{frame_text}
use Rattle.irt_base.specs.declared.plants.Device.{Device}
use Rattle.irt_base.specs.declared.plants.Plant.{Plant}
use Rattle.irt_base.specs.declared.numbers.DevId.{DevId}
use Rattle.cycle_rows.specs.Rows.{cycle_of}
use Rattle.cycle_rows.specs.declared.rows.JournalRow.{JournalRow}
use Rattle.cycle_rows.specs.declared.rows.JournalRow.TheVariants.{Occupy, Deliver, Missed, Sent, Refused, Lost, Came}

-- the name of a device, nothing where the plant has no such device
abbrev pub name_of : Plant → ℕ → List ℕ
name_of plant device = unwrap_or (option_map (λ (d : Device). d.name) (slice_get plant.devices device)) []

-- a space and a number
abbrev pub field : ℕ → List ℕ
field n = 32 ∷ decimal n

-- a space and a time in ns, which may be negative: ` -1000`
abbrev pub time_field : ℤ → List ℕ
time_field time = 32 ∷ signed_decimal time

-- a space and a FrameID: ` 0x0100`
abbrev pub frame_field : ℕ → List ℕ
frame_field frame = 32 ∷ frame_text frame

abbrev pub end_of_line : List ℕ
end_of_line = 10 ∷ []

-- from when until when, in true ns
abbrev pub times_end : ℤ → ℤ → List ℕ
times_end start end = time_field start ++ time_field end ++ end_of_line

-- a traffic entry, and which of its parcels
abbrev pub parcel_fields : ℕ → ℕ → List ℕ
parcel_fields traffic serial = field traffic ++ field serial

-- the letter of a line, the cycle and the device's name: `o 0 a`
abbrev pub begin_of : Plant → ℕ → ℕ → ℕ → List ℕ
begin_of plant letter cycle device = letter ∷ (field cycle ++ 32 ∷ name_of plant device)

-- a port and a parcel
abbrev pub queue_end : ℕ → ℕ → ℕ → List ℕ
queue_end port traffic serial = field port ++ parcel_fields traffic serial ++ end_of_line

-- o for an occupation, d for a delivery, x for a drop; t, q, l and a for a parcel sent, refused, lost and come
abbrev pub letter_of : JournalRow → ℕ
letter_of (Occupy k d p f start end) = 111
letter_of (Deliver k d f end) = 100
letter_of (Missed k d f) = 120
letter_of (Sent k d p traffic serial start end) = 116
letter_of (Refused k d p traffic serial) = 113
letter_of (Lost k d p traffic serial) = 108
letter_of (Came k d traffic serial) = 97

abbrev pub device_of : JournalRow → DevId
device_of (Occupy k d p f start end) = d
device_of (Deliver k d f end) = d
device_of (Missed k d f) = d
device_of (Sent k d p traffic serial start end) = d
device_of (Refused k d p traffic serial) = d
device_of (Lost k d p traffic serial) = d
device_of (Came k d traffic serial) = d

-- what follows letter, cycle and device
abbrev pub rest_of : JournalRow → List ℕ
rest_of (Occupy k d p f start end) = field p.0 ++ frame_field f.0 ++ times_end start end
rest_of (Deliver k d f end) = frame_field f.0 ++ time_field end ++ end_of_line
rest_of (Missed k d f) = frame_field f.0 ++ codes " step\n"
rest_of (Sent k d p traffic serial start end) = field p.0 ++ parcel_fields traffic serial ++ times_end start end
rest_of (Refused k d p traffic serial) = queue_end p.0 traffic serial
rest_of (Lost k d p traffic serial) = queue_end p.0 traffic serial
rest_of (Came k d traffic serial) = parcel_fields traffic serial ++ end_of_line

-- The line of a row: `o 0 a 1 0x0100 0 6720`, `d 0 b 0x0100 14320`, `x 2 s 0x0100 step`,
-- `t 0 a 1 0 3 106720 113440`, `q 0 a 1 0 32`, `l 0 a 1 0 3` and `a 1 b 0 3`.
abbrev pub row_line : Plant → JournalRow → List ℕ
row_line plant row = begin_of plant (letter_of row) (cycle_of row) (device_of row).0 ++ rest_of row

-- the lines of the rows, in their order
abbrev pub journal_text : Plant → List JournalRow → List ℕ
journal_text plant rows = flat_map (row_line plant) rows
