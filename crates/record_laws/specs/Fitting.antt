-- Which records fit a plant: their lists have the lengths that the plant and the cycles give, their rows stand by cycle
-- and name devices of the plant, and their numbers are of the types that hold them.
use Rattle.std.specs.Prelude.{◌≡◌, ℕ, ◌^◌, ◌<◌, ℤ, List, length}
use Rattle.std.specs.List.{AllByRecursion}
use Rattle.std.specs.Int.{w64}
use Rattle.std.specs.Int.RustNames.{FitsSigned}
use Rattle.cycle_rows.specs.Rows.{cycle_of}
use Rattle.cycle_rows.specs.declared.rows.JournalRow.{JournalRow}
use Rattle.cycle_rows.specs.declared.rows.JournalRow.TheVariants.{Occupy, Deliver, Missed, Sent, Refused, Lost, Came}
use Rattle.io_buffers.specs.Given.{Given}
use Rattle.irt_base.specs.declared.numbers.PortNo.{PortNo}
use Rattle.irt_base.specs.declared.plants.Plant.{Plant}
use Rattle.irt_trace.specs.Journal.{device_of}
use Rattle.iso_rules.specs.Lockstep.{AppLog, RunRecord}
use Rattle.iso_rules.specs.declared.turn.Turn.{Turn}
use Rattle.record_text.specs.Text.{StandByCycle}

-- numbers of 64 bits
abbrev pub AreWords : List ℕ → Type 0
AreWords words = AllByRecursion (λ word. word < 2 ^ 64) words

-- a time in ns
abbrev pub IsTime : ℤ → Type 0
IsTime time = FitsSigned w64 time

-- a port, and a parcel of a traffic entry
pub record IsParcelAt (p : PortNo) (traffic serial : ℕ) : Type 0 where
  pub port : p.0 < 2 ^ 8
  pub entry : traffic < 2 ^ 16
  pub number : serial < 2 ^ 32

-- the numbers of a row beside its cycle and device
abbrev pub HasRange : JournalRow → Type 0
HasRange (Occupy k d p f start end) = (p.0 < 2 ^ 8) × (f.0 < 2 ^ 16) × IsTime start × IsTime end
HasRange (Deliver k d f end) = (f.0 < 2 ^ 16) × IsTime end
HasRange (Missed k d f) = f.0 < 2 ^ 16
HasRange (Sent k d p traffic serial start end) = IsParcelAt p traffic serial × IsTime start × IsTime end
HasRange (Refused k d p traffic serial) = IsParcelAt p traffic serial
HasRange (Lost k d p traffic serial) = IsParcelAt p traffic serial
HasRange (Came k d traffic serial) = (traffic < 2 ^ 16) × (serial < 2 ^ 32)

-- a row of one of so many cycles, on a device of the plant
pub record IsRowOf (plant : Plant) (cycles : ℕ) (row : JournalRow) : Type 0 where
  pub cycle : cycle_of row < cycles
  pub device : (device_of row).0 < length plant.devices
  pub range : HasRange row

pub record IsTake (g : Given) : Type 0 where
  pub number : g.taken.number < 2 ^ 64
  pub words : AreWords g.words

pub record IsTurn (t : Turn) : Type 0 where
  pub found : t.found < 2 ^ 32
  pub number : t.taken.number < 2 ^ 64
  pub input : AreWords t.input
  pub output : AreWords t.output

-- what a record of so many cycles has of an app
pub record IsLogOf (cycles : ℕ) (log : AppLog) : Type 0 where
  pub take_count : length log.takes ≡ cycles
  pub takes : AllByRecursion IsTake log.takes
  pub image_count : length log.images ≡ cycles
  pub images : AllByRecursion AreWords log.images
  pub turn_count : length log.turns < 2 ^ 64
  pub turns : AllByRecursion IsTurn log.turns

-- a record of so many cycles of a plant
pub record IsRecordOf (plant : Plant) (cycles : ℕ) (r : RunRecord JournalRow) : Type 0 where
  pub count : cycles < 2 ^ 32
  pub app_count : length r.apps ≡ length plant.apps
  pub apps : AllByRecursion (IsLogOf cycles) r.apps
  pub row_count : length r.journal < 2 ^ 64
  pub rows : AllByRecursion (IsRowOf plant cycles) r.journal
  pub order : StandByCycle r.journal
