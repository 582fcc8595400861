-- What a function that makes steps leaves behind.
use Rattle.std.specs.Global.{Vec}
use Rattle.std.specs.Prelude.{◌≡◌, ℕ, ⊤, List, Option, Result, Ok, Err}
use Rattle.irt_io.specs.Fault.{HasRisen}
use Rattle.irt_io.specs.Files.{Files}
use Rattle.irt_io.specs.declared.shelf.ShelfError.{ShelfError}
use Rattle.irt_io.specs.declared.shelf.ShelfError.TheVariants as errors
use Rattle.irt_steps.specs.declared.stop.Cause.{Cause}
use Rattle.irt_steps.specs.declared.stop.Cause.TheVariants as causes
use Rattle.irt_steps.specs.declared.stop.Stop.{Stop}
use Rattle.irt_steps.specs.declared.stop.Stop.TheVariants as stops
use Rattle.irt_steps.specs.Lines.{absent_line, long_line, fault_line}
use Rattle.irt_steps.specs.Steps.{Ending, ending, Steps, Comes, FailsAt, Halts}

-- the status of a cause
abbrev pub status_of : Cause → ℕ
status_of causes.Usage = 1
status_of causes.Absent = 3
status_of causes.TooLong = 4
status_of causes.Plant = 5
status_of causes.NoWalk = 6
status_of causes.Malformed = 7
status_of causes.Reject = 8
status_of causes.Overrun = 9
status_of causes.World = 10
status_of causes.LongRun = 11

-- A function ended, by what it returned seen by view, as the steps say.
abbrev pub Follows : {A B : Type 0} → (A → B) → Steps B → Option Files → Option Files → Result A Stop → Type 0
Follows view steps old new (Ok x) = Comes steps old new (Ok (view x))
Follows view steps old new (Err (stops.Ends cause line)) =
    Comes steps old new (Err (ending (status_of cause) line.items))
Follows view steps old new (Err (stops.Fault line)) =
    (name : List ℕ) × (line.items ≡ fault_line name) × FailsAt steps old new name
Follows view steps old new (Err stops.NoMemory) = Halts steps old new

-- the same of a function that touches no shelf
abbrev pub Decides : {A B : Type 0} → (A → B) → Steps B → Result A Stop → Type 0
Decides view steps result = (files : Option Files) → Follows view steps files files result

-- A function that touches no shelf returned, seen by view, this value or ending, unless memory ran out.
abbrev pub Answers : {A B : Type 0} → (A → B) → Result B Ending → Result A Stop → Type 0
Answers view answer (Ok x) = answer ≡ Ok (view x)
Answers view answer (Err (stops.Ends cause line)) = answer ≡ Err (ending (status_of cause) line.items)
Answers view answer (Err (stops.Fault line)) = ⊥
Answers view answer (Err stops.NoMemory) = ⊤

-- the stop is this ending, or want of memory
abbrev pub IsEnding : Stop → ℕ → List ℕ → Type 0
IsEnding stops.NoMemory status text = ⊤
IsEnding (stops.Fault line) status text = ⊥
IsEnding (stops.Ends cause line) status text = (status_of cause ≡ status) × (line.items ≡ text)

-- the stop is a fault of the shelf at this name, or want of memory
abbrev pub IsFault : Stop → List ℕ → Type 0
IsFault stops.NoMemory name = ⊤
IsFault (stops.Fault line) name = line.items ≡ fault_line name
IsFault (stops.Ends cause line) name = ⊥

-- an ending with a line, if there was memory for it
abbrev pub line_stop : {E : Type 0} → Cause → Result (Vec ℕ) E → Stop
line_stop cause (Ok line) = stops.Ends cause line
line_stop cause (Err e) = stops.NoMemory

-- what an error of the shelf at a name ends with
abbrev pub IsStopOf : ShelfError → List ℕ → Stop → Type 0
IsStopOf errors.Absent name stop = IsEnding stop 3 (absent_line name)
IsStopOf errors.TooLong name stop = IsEnding stop 4 (long_line name)
IsStopOf errors.Failed name stop = IsFault stop name
IsStopOf errors.NoMemory name stop = stop ≡ stops.NoMemory

-- a fault of the shelf was counted
abbrev pub HasStopCause : ℕ → ℕ → Stop → Type 0
HasStopCause before now stops.NoMemory = ⊤
HasStopCause before now (stops.Fault line) = HasRisen before now
HasStopCause before now (stops.Ends cause line) = ⊤

abbrev pub HasCause : {A : Type 0} → ℕ → ℕ → Result A Stop → Type 0
HasCause before now (Ok x) = ⊤
HasCause before now (Err stop) = HasStopCause before now stop

-- a function that touches no shelf ends by no fault of one
abbrev pub IsNoFault : Stop → Type 0
IsNoFault stops.NoMemory = ⊤
IsNoFault (stops.Fault line) = ⊥
IsNoFault (stops.Ends cause line) = ⊤
