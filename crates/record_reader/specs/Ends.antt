-- What is answered at a line of this number.
use Rattle.std.specs.Prelude.{◌≡◌, ℕ, List, Option, Some, None, Result, Ok, Err}
use Rattle.cycle_rows.specs.declared.rows.JournalRow.{JournalRow}
use Rattle.iso_rules.specs.Lockstep.{AppLog}
use Rattle.record_text.specs.declared.record.Record.{Record}
use Rattle.record_reader.specs.declared.fault.RecordFault.{RecordFault}
use Rattle.record_reader.specs.declared.fault.RecordFault.TheVariants as faults
use Rattle.record_reader.specs.declared.place.Place.{Place}
use Rattle.record_reader.specs.declared.place.Place.TheVariants.{Done}

-- the number of a line that is not read
abbrev pub IsUnread : {Y : Type 0} → ℕ → RecordFault → Option Y → Type 0
IsUnread line faults.NoMemory read = Unit {0}
IsUnread line (faults.Line n) read = (n ≡ line) × (read ≡ None)

-- what is read, seen by view, or that number
abbrev pub GivesAt : {X Y : Type 0} → (X → Y) → ℕ → Result X RecordFault → Option Y → Type 0
GivesAt view line (Ok x) read = read ≡ Some (view x)
GivesAt view line (Err e) read = IsUnread line e read

-- the place after a line, or its number where there is none
abbrev pub GivesPlace : ℕ → Result Place RecordFault → Option Place → Type 0
GivesPlace line (Ok place) after = after ≡ Some place
GivesPlace line (Err e) after = (e ≡ faults.Line line) × (after ≡ None)

-- the whole record, or the number of the line that is missing
abbrev pub EndsAt : Place → List AppLog → List JournalRow → ℕ → Result Record RecordFault → Type 0
EndsAt place apps rows line (Ok r) = (place ≡ Done r.cycles) × (r.apps ≡ apps) × (r.journal ≡ rows)
EndsAt place apps rows line (Err e) = (e ≡ faults.Line line) × ((cycles : ℕ) → ¬ (place ≡ Done cycles))
