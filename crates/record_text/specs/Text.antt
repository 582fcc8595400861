-- The text of a run's record.
use Rattle.std.specs.Prelude.{◌≤◌, ℕ, ◌+◌, ◌==◌, Bool, true, false, List, [], ◌∷◌, ◌++◌, codes, filter, option_map, slice_get, unwrap_or, zip, AllPairs}
use Rattle.std.specs.List.{count_by, flat_map, range_with_len}
use Rattle.cycle_rows.specs.Rows.{cycle_of}
use Rattle.cycle_rows.specs.declared.rows.JournalRow.{JournalRow}
use Rattle.io_buffers.specs.Given.{Given}
use Rattle.io_buffers.specs.declared.taken.Taken.{Taken}
use Rattle.irt_base.specs.Text.{hex_digits}
use Rattle.irt_base.specs.declared.plants.App.{App}
use Rattle.irt_base.specs.declared.plants.Plant.{Plant}
use Rattle.irt_trace.specs.Journal.{begin_of, end_of_line, field, journal_text, letter_of, name_of}
use Rattle.iso_rules.specs.Lockstep.{AppLog, RunRecord}
use Rattle.iso_rules.specs.declared.turn.Turn.{Turn}
use Rattle.record_text.specs.declared.part.Part.{Part}
use Rattle.record_text.specs.declared.part.Part.TheVariants.{Takes, Images, Turns}
use Rattle.record_text.specs.declared.record.Record.{Record}

-- a space and a word, sixteen digits: ` 000000000000002a`
abbrev pub word_field : ℕ → List ℕ
word_field word = 32 ∷ hex_digits 16 word

-- nothing where there are no words
abbrev pub words_text : List ℕ → List ℕ
words_text words = flat_map word_field words

-- a space and 1 for true, 0 for false
abbrev pub flag_field : Bool → List ℕ
flag_field true = 32 ∷ 49 ∷ []
flag_field false = 32 ∷ 48 ∷ []

-- the number of a publication, and whether it was fresh and in its window: ` 3 1 1`
abbrev pub taken_fields : Taken → List ℕ
taken_fields taken = field taken.number ++ (flag_field taken.fresh ++ flag_field taken.in_window)

-- what was taken of an app's output in a cycle: `g 0 a 0 0 1 0000000000000000`
abbrev pub take_line : Plant → ℕ → ℕ → Given → List ℕ
take_line plant k device g = begin_of plant 103 k device ++ (taken_fields g.taken ++ (words_text g.words ++ end_of_line))

-- what was published to its input: `i 0 a 0000000000000000`
abbrev pub image_line : Plant → ℕ → ℕ → List ℕ → List ℕ
image_line plant k device words = begin_of plant 105 k device ++ (words_text words ++ end_of_line)

-- a turn: its number, how many cycles it found, and what it took: `u a 0 1 1 1 1`
abbrev pub turn_begin : Plant → ℕ → ℕ → Turn → List ℕ
turn_begin plant device number t =
    117 ∷ 32 ∷ (name_of plant device ++ (field number ++ (field t.found ++ taken_fields t.taken)))

-- with its input and output words: `u a 0 1 1 1 1 0000000000000000 : 0000000000000001`
abbrev pub turn_line : Plant → ℕ → ℕ → Turn → List ℕ
turn_line plant device number t =
    turn_begin plant device number t ++ (words_text t.input ++ (codes " :" ++ (words_text t.output ++ end_of_line)))

-- what a log's list of a cycle has, as a line, and nothing where it has none
abbrev pub line_at : {X : Type 0} → (X → List ℕ) → List X → ℕ → List ℕ
line_at line xs k = unwrap_or (option_map line (slice_get xs k)) []

-- turns, of which the first has this number
abbrev pub turn_lines : Plant → ℕ → ℕ → List Turn → List ℕ
turn_lines plant device number [] = []
turn_lines plant device number (t ∷ ts) = turn_line plant device number t ++ turn_lines plant device (number + 1) ts

-- one app's lines in a part of the text
abbrev pub part_lines : Plant → Part → ℕ → AppLog → List ℕ
part_lines plant (Takes k) device log = line_at (take_line plant k device) log.takes k
part_lines plant (Images k) device log = line_at (image_line plant k device) log.images k
part_lines plant Turns device log = turn_lines plant device 0 log.turns

-- and those of all apps, in the plant's order
abbrev pub apps_text : Plant → Part → List AppLog → List ℕ
apps_text plant part apps = flat_map (λ (p : App × AppLog). part_lines plant part p.0.device.0 p.1) (zip plant.apps apps)

abbrev pub rows_of_cycle : ℕ → List JournalRow → List JournalRow
rows_of_cycle k rows = filter (λ (r : JournalRow). cycle_of r == k) rows

-- a cycle of which these are the rows: what was taken, the rows, what was published
abbrev pub cycle_text : Plant → List AppLog → ℕ → List JournalRow → List ℕ
cycle_text plant apps k rows = apps_text plant (Takes k) apps ++ (journal_text plant rows ++ apps_text plant (Images k) apps)

abbrev pub cycles_text : Plant → List AppLog → List JournalRow → ℕ → List ℕ
cycles_text plant apps journal cycles =
    flat_map (λ k. cycle_text plant apps k (rows_of_cycle k journal)) (range_with_len 0 cycles)

-- how many rows have a letter
abbrev pub lettered : ℕ → List JournalRow → ℕ
lettered letter rows = count_by (λ r. letter_of r == letter) rows

-- the numbers of cycles, occupations, deliveries and drops: `end 16 7740 1984 0`
abbrev pub end_text : ℕ → List JournalRow → List ℕ
end_text cycles rows =
    codes "end" ++ (field cycles ++ (field (lettered 111 rows) ++ (field (lettered 100 rows) ++ (field (lettered 120 rows) ++ end_of_line))))

-- The text of the record of so many cycles of a plant: cycle by cycle, then the turns app by app, and the numbers.
abbrev pub record_text : Plant → ℕ → RunRecord JournalRow → List ℕ
record_text plant cycles r =
    cycles_text plant r.apps r.journal cycles ++ (apps_text plant Turns r.apps ++ end_text cycles r.journal)

-- no row stands before one of an earlier cycle
abbrev pub StandByCycle : List JournalRow → Type 0
StandByCycle rows = AllPairs (λ (r s : JournalRow). cycle_of r ≤ cycle_of s) rows

-- what a record holds beside the number of its cycles
abbrev pub run_of : Record → RunRecord JournalRow
run_of r = record { apps = r.apps; journal = r.journal }
