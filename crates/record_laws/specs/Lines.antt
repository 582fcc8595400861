-- The lines of a record, and what each says of it.
use Rattle.std.specs.Prelude.{ℕ, ◌^◌, ◌+◌, ◌<◌, ◌==◌, if◌then◌else◌, List, [], ◌∷◌, ◌++◌, length, option_map, slice_get, unwrap_or, zip}
use Rattle.std.specs.List.{flat_map, range_with_len}
use Rattle.cycle_rows.specs.declared.rows.JournalRow.{JournalRow}
use Rattle.io_buffers.specs.Given.{Given}
use Rattle.irt_base.specs.declared.numbers.DevId.{DevId}
use Rattle.irt_base.specs.declared.plants.App.{App}
use Rattle.irt_base.specs.declared.plants.Plant.{Plant}
use Rattle.irt_trace.specs.Journal.{end_of_line, field, row_line}
use Rattle.iso_rules.specs.Lockstep.{AppLog, RunRecord}
use Rattle.iso_rules.specs.declared.turn.Turn.{Turn}
use Rattle.record_laws.specs.Fitting.{AreWords, IsRowOf, IsTake, IsTurn}
use Rattle.record_laws.specs.declared.line.Line.{Line}
use Rattle.record_laws.specs.declared.line.Line.TheVariants as says
use Rattle.record_text.specs.Text.{image_line, lettered, rows_of_cycle, take_line, turn_line}

abbrev pub last_line : ℕ → ℕ → ℕ → ℕ → List ℕ
last_line cycles occupied delivered dropped =
    101 ∷ 110 ∷ 100 ∷ (field cycles ++ (field occupied ++ (field delivered ++ (field dropped ++ end_of_line))))

abbrev pub line_text : Plant → Line → List ℕ
line_text plant (says.Take k device g) = take_line plant k device.0 g
line_text plant (says.Row r) = row_line plant r
line_text plant (says.Image k device words) = image_line plant k device.0 words
line_text plant (says.Turn device number t) = turn_line plant device.0 number t
line_text plant (says.Last cycles occupied delivered dropped) = last_line cycles occupied delivered dropped

-- a line of a record of so many cycles
abbrev pub IsLineOf : Plant → ℕ → Line → Type 0
IsLineOf plant cycles (says.Take k device g) = (k < cycles) × (device.0 < length plant.devices) × IsTake g
IsLineOf plant cycles (says.Row r) = IsRowOf plant cycles r
IsLineOf plant cycles (says.Image k device words) = (k < cycles) × (device.0 < length plant.devices) × AreWords words
IsLineOf plant cycles (says.Turn device number t) = (device.0 < length plant.devices) × (number < 2 ^ 64) × IsTurn t
IsLineOf plant cycles (says.Last count occupied delivered dropped) =
    (count < 2 ^ 32) × (occupied < 2 ^ 64) × (delivered < 2 ^ 64) × (dropped < 2 ^ 64)

-- what the place of a list gives, nothing where the list has no such place
abbrev pub at_place : {X Y : Type 0} → (X → List Y) → List X → ℕ → List Y
at_place f xs place = unwrap_or (option_map f (slice_get xs place)) []

-- of turns, of which the first has this number
abbrev pub of_turns : {Y : Type 0} → (Line → List Y) → DevId → ℕ → List Turn → List Y
of_turns f device number [] = []
of_turns f device number (t ∷ ts) = f (says.Turn device number t) ++ of_turns f device (number + 1) ts

abbrev pub of_takes : {Y : Type 0} → (Line → List Y) → Plant → List AppLog → ℕ → List Y
of_takes f plant apps k = flat_map (λ (p : App × AppLog). at_place (λ g. f (says.Take k p.0.device g)) p.1.takes k) (zip plant.apps apps)

abbrev pub of_images : {Y : Type 0} → (Line → List Y) → Plant → List AppLog → ℕ → List Y
of_images f plant apps k = flat_map (λ (p : App × AppLog). at_place (λ words. f (says.Image k p.0.device words)) p.1.images k) (zip plant.apps apps)

abbrev pub of_rows : {Y : Type 0} → (Line → List Y) → List JournalRow → List Y
of_rows f rows = flat_map (λ r. f (says.Row r)) rows

abbrev pub of_cycle : {Y : Type 0} → (Line → List Y) → Plant → RunRecord JournalRow → ℕ → List Y
of_cycle f plant r k = of_takes f plant r.apps k ++ (of_rows f (rows_of_cycle k r.journal) ++ of_images f plant r.apps k)

abbrev pub of_cycles : {Y : Type 0} → (Line → List Y) → Plant → ℕ → RunRecord JournalRow → List Y
of_cycles f plant cycles r = flat_map (λ k. of_cycle f plant r k) (range_with_len 0 cycles)

abbrev pub of_all_turns : {Y : Type 0} → (Line → List Y) → Plant → List AppLog → List Y
of_all_turns f plant apps = flat_map (λ (p : App × AppLog). of_turns f p.0.device 0 p.1.turns) (zip plant.apps apps)

abbrev pub last_of : ℕ → List JournalRow → Line
last_of cycles rows = says.Last cycles (lettered 111 rows) (lettered 100 rows) (lettered 120 rows)

-- what each line of a record gives, one behind the other
abbrev pub of_record : {Y : Type 0} → (Line → List Y) → Plant → ℕ → RunRecord JournalRow → List Y
of_record f plant cycles r = of_cycles f plant cycles r ++ (of_all_turns f plant r.apps ++ f (last_of cycles r.journal))

abbrev pub lines_of : Plant → ℕ → RunRecord JournalRow → List Line
lines_of plant cycles r = of_record (λ line. line ∷ []) plant cycles r

-- what lines say was taken from the app on a device
abbrev pub takes_in : ℕ → Line → List Given
takes_in device (says.Take k d g) = if d.0 == device then g ∷ [] else []
takes_in device (says.Row r) = []
takes_in device (says.Image k d words) = []
takes_in device (says.Turn d number t) = []
takes_in device (says.Last cycles occupied delivered dropped) = []

-- what was published to it
abbrev pub images_in : ℕ → Line → List (List ℕ)
images_in device (says.Take k d g) = []
images_in device (says.Row r) = []
images_in device (says.Image k d words) = if d.0 == device then words ∷ [] else []
images_in device (says.Turn d number t) = []
images_in device (says.Last cycles occupied delivered dropped) = []

-- its turns
abbrev pub turns_in : ℕ → Line → List Turn
turns_in device (says.Take k d g) = []
turns_in device (says.Row r) = []
turns_in device (says.Image k d words) = []
turns_in device (says.Turn d number t) = if d.0 == device then t ∷ [] else []
turns_in device (says.Last cycles occupied delivered dropped) = []

-- the rows of the journal
abbrev pub rows_in : Line → List JournalRow
rows_in (says.Take k d g) = []
rows_in (says.Row r) = r ∷ []
rows_in (says.Image k d words) = []
rows_in (says.Turn d number t) = []
rows_in (says.Last cycles occupied delivered dropped) = []

-- the number of cycles
abbrev pub cycles_in : Line → List ℕ
cycles_in (says.Take k d g) = []
cycles_in (says.Row r) = []
cycles_in (says.Image k d words) = []
cycles_in (says.Turn d number t) = []
cycles_in (says.Last cycles occupied delivered dropped) = cycles ∷ []

-- what lines say of an app on a device
abbrev pub log_in : List Line → ℕ → AppLog
log_in lines device =
    record {
      takes = flat_map (takes_in device) lines;
      images = flat_map (images_in device) lines;
      turns = flat_map (turns_in device) lines;
    }
