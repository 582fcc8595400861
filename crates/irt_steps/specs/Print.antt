-- Printing a text piece by piece.
use Rattle.std.specs.Prelude.{ℕ, ◌≤◌, ⊤, List, length, take, Option, Result, Ok, Err}
use Rattle.irt_io.specs.Fault.{HasRisen}
use Rattle.irt_io.specs.Taken.{Appends}
use Rattle.irt_io.specs.declared.sink.SinkError.{SinkError}
use Rattle.irt_io.specs.declared.sink.SinkError.TheVariants as errors

-- the bytes that were taken grew by a front of the text
pub record AppendsFront (old new : Option (List ℕ)) (text : List ℕ) : Type 0 where
  pub count : ℕ
  pub within : count ≤ length text
  pub taken : Appends old new (take count text)

-- a fault of the sink was counted
abbrev pub HasPrintCause : ℕ → ℕ → Result (Unit {0}) SinkError → Type 0
HasPrintCause before now (Ok u) = ⊤
HasPrintCause before now (Err errors.Failed) = HasRisen before now
HasPrintCause before now (Err errors.NoMemory) = ⊤
