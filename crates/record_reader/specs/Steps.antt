-- Which line may follow which. A place says what has been read.
use Rattle.std.specs.Prelude.{ℕ, ◌+◌, ◌-◌, ◌^◌, ◌==◌, ◌&&◌, ◌||◌, nat_le, nat_lt, Bool, false, if◌then◌else◌, List, [], ◌∷◌, ◌++◌, length, Option, Some, None, slice_get}
use Rattle.std.specs.Option.{option_map_or}
use Rattle.cycle_rows.specs.Rows.{cycle_of}
use Rattle.cycle_rows.specs.declared.rows.JournalRow.{JournalRow}
use Rattle.irt_base.specs.declared.limits.TheConstants.{MAX_CYCLES}
use Rattle.irt_base.specs.declared.numbers.DevId.{DevId}
use Rattle.irt_base.specs.declared.plants.App.{App}
use Rattle.irt_base.specs.declared.plants.Plant.{Plant}
use Rattle.iso_rules.specs.Image.{app_on}
use Rattle.record_laws.specs.Lines.{rows_in}
use Rattle.record_laws.specs.declared.line.Line.{Line}
use Rattle.record_laws.specs.declared.line.Line.TheVariants as says
use Rattle.record_text.specs.Text.{lettered}
use Rattle.record_reader.specs.Order.{follows}
use Rattle.record_reader.specs.Reading.{◌>>=◌}
use Rattle.record_reader.specs.declared.place.Place.{Place}
use Rattle.record_reader.specs.declared.place.Place.TheVariants.{Takes, Rows, Images, Turns, Done}

-- the app of this number is that of a device
abbrev pub is_app : Plant → ℕ → DevId → Bool
is_app plant n device = option_map_or (λ (a : App). a.device.0 == device.0) (slice_get plant.apps n) false

-- where so many takes of a cycle are read, of so many apps
abbrev pub after_takes : ℕ → ℕ → ℕ → Place
after_takes apps k n = if n == apps then Rows k else Takes k n

-- where so many images of a cycle are read
abbrev pub after_images : ℕ → ℕ → ℕ → Place
after_images apps k n = if n == apps then Turns (k + 1) 0 0 else Images k n

-- the place before the first line
abbrev pub start_of : Plant → Place
start_of plant = after_takes (length plant.apps) 0 0

abbrev pub take_at : Plant → ℕ → ℕ → ℕ → DevId → Option Place
take_at plant k n cycle device = if (cycle == k) && is_app plant n device then Some (after_takes (length plant.apps) k (n + 1)) else None

abbrev pub image_at : Plant → ℕ → ℕ → ℕ → DevId → Option Place
image_at plant k n cycle device =
    if nat_lt k MAX_CYCLES && ((cycle == k) && is_app plant n device) then Some (after_images (length plant.apps) k (n + 1)) else None

-- A plant without apps has no line between the rows of two cycles.
abbrev pub is_row_at : Plant → ℕ → ℕ → Bool
is_row_at plant k cycle = nat_lt cycle MAX_CYCLES && ((length plant.apps == 0) || (cycle == k))

abbrev pub row_at : Plant → List JournalRow → ℕ → JournalRow → Option Place
row_at plant rows k r = if is_row_at plant k (cycle_of r) && follows rows r then Some (Rows (cycle_of r)) else None

-- the next turn of the app, or the first one of a later app
abbrev pub is_turn_at : ℕ → ℕ → ℕ → ℕ → Bool
is_turn_at n number app turn =
    nat_lt turn (2 ^ 64 - 1) && (((app == n) && (turn == number)) || (nat_lt n app && (turn == 0)))

abbrev pub turn_at : Plant → ℕ → ℕ → ℕ → DevId → ℕ → Option Place
turn_at plant cycles n number device turn =
    app_on plant device.0 >>= λ app. if is_turn_at n number app turn then Some (Turns cycles app (turn + 1)) else None

abbrev pub are_counts : List JournalRow → ℕ → ℕ → ℕ → Bool
are_counts rows occupied delivered dropped =
    (lettered 111 rows == occupied) && ((lettered 100 rows == delivered) && (lettered 120 rows == dropped))

-- the place after one more line, where these are the rows before it
abbrev pub next : Plant → List JournalRow → Place → Line → Option Place
next plant rows (Takes k n) (says.Take cycle device g) = take_at plant k n cycle device
next plant rows (Rows k) (says.Row r) = row_at plant rows k r
next plant rows (Rows k) (says.Image cycle device words) = image_at plant k 0 cycle device
next plant rows (Rows k) (says.Last cycles occupied delivered dropped) =
    if (length plant.apps == 0) && (nat_lt k cycles && (nat_le cycles MAX_CYCLES && are_counts rows occupied delivered dropped))
    then Some (Done cycles) else None
next plant rows (Images k n) (says.Image cycle device words) = image_at plant k n cycle device
next plant rows (Turns cycles n number) (says.Take cycle device g) =
    if (n == 0) && ((number == 0) && nat_lt cycles MAX_CYCLES) then take_at plant cycles 0 cycle device else None
next plant rows (Turns cycles n number) (says.Turn device turn t) = turn_at plant cycles n number device turn
next plant rows (Turns cycles n number) (says.Last last occupied delivered dropped) =
    if (last == cycles) && are_counts rows occupied delivered dropped then Some (Done last) else None
next plant rows place line = None

-- the place after some lines
abbrev pub run : Plant → List JournalRow → Place → List Line → Option Place
run plant rows place [] = Some place
run plant rows place (line ∷ lines) = next plant rows place line >>= λ after. run plant (rows ++ rows_in line) after lines
