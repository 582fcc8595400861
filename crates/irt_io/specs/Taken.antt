-- What a sink took, and what its call may answer.
use Rattle.std.specs.Prelude.{◌≡◌, ℕ, ⊤, List, ◌++◌, take, Option, Some, None, Result, Ok, Err}
use Rattle.irt_io.specs.Fault.{HasRisen}
use Rattle.irt_io.specs.declared.sink.SinkError.{SinkError}
use Rattle.irt_io.specs.declared.sink.SinkError.TheVariants as errors

-- the bytes that were taken grew by these; whether a sink tells its bytes never changes
abbrev pub Appends : Option (List ℕ) → Option (List ℕ) → List ℕ → Type 0
Appends None None more = ⊤
Appends None (Some new) more = ⊥
Appends (Some old) None more = ⊥
Appends (Some old) (Some new) more = new ≡ old ++ more

-- the bytes of a piece that an answer says were taken
abbrev pub taken_of : List ℕ → Result ℕ SinkError → List ℕ
taken_of piece (Ok n) = take n piece
taken_of piece (Err e) = take 0 piece

abbrev pub IsPut : Option (List ℕ) → Option (List ℕ) → List ℕ → Result ℕ SinkError → Type 0
IsPut old new piece result = Appends old new (taken_of piece result)

-- a fault was counted
abbrev pub IsPutCause : ℕ → ℕ → Result ℕ SinkError → Type 0
IsPutCause before now (Ok n) = ⊤
IsPutCause before now (Err errors.Failed) = HasRisen before now
IsPutCause before now (Err errors.NoMemory) = ⊤
