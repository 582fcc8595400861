-- The ways in which a command ends.
use Rattle.std.specs.Global.{Vec}
use Rattle.std.specs.Prelude.{◌≡◌, ◌⊎◌, ℕ, List, Option, Result, Ok, Err}
use Rattle.irt_io.specs.Fault.{HasRisen}
use Rattle.irt_io.specs.Files.{Files}
use Rattle.irt_io.specs.Taken.{Appends}
use Rattle.irt_steps.specs.declared.stop.Stop.{Stop}
use Rattle.irt_steps.specs.declared.stop.Stop.TheVariants as stops
use Rattle.irt_steps.specs.Follow.{status_of}
use Rattle.irt_steps.specs.Lines.{fault_line}
use Rattle.irt_steps.specs.Print.{AppendsFront}
use Rattle.irt_steps.specs.Steps.{Ending, ending, Steps, Comes, FailsAt, Halts}

-- how many faults a shelf or a sink had counted before the call, and after it
pub record Counts : Type 0 where
  pub before : ℕ
  pub now : ℕ

abbrev pub Rose : Counts → Type 0
Rose c = HasRisen c.before c.now

-- a command that ran to its end has status 0 and prints its text
abbrev pub ended : Result (List ℕ) Ending → Ending
ended (Ok text) = ending 0 text
ended (Err e) = e

-- The status and the text of the steps on these files, and the files after them.
pub record IsOutcome (steps : Steps (List ℕ)) (old new : Option Files) (o : Ending) : Type 0 where
  pub answer : Result (List ℕ) Ending
  pub comes : Comes steps old new answer
  pub is : o ≡ ended answer

-- a fault of the shelf at a name, with its line
pub record IsShelfFault (steps : Steps (List ℕ)) (shelf : Counts) (old new : Option Files) (text : List ℕ) : Type 0 where
  pub name : List ℕ
  pub rose : Rose shelf
  pub fails : FailsAt steps old new name
  pub is : text ≡ fault_line name

-- a text that the steps print: the outcome's, or a fault's line
abbrev pub IsTextOf : Steps (List ℕ) → Counts → Option Files → Option Files → List ℕ → Type 0
IsTextOf steps shelf old new text =
    ((o : Ending) × IsOutcome steps old new o × (text ≡ o.text)) ⊎ IsShelfFault steps shelf old new text

-- How a call ends, by its status. As the outcome says. By a fault of the shelf, with its line printed. By a fault of
-- the sink, or for want of memory, each with a front of such a text printed. For want of memory before there is a
-- text, with nothing printed.
pub data EndsAs (steps : Steps (List ℕ)) (shelf sink : Counts) (old new : Option Files) (before after : Option (List ℕ)) : ℕ → Type 0 where
  as_stated : (o : Ending) → IsOutcome steps old new o → Appends before after o.text → EndsAs steps shelf sink old new before after o.status
  shelf_failed : (text : List ℕ) → IsShelfFault steps shelf old new text → Appends before after text → EndsAs steps shelf sink old new before after 2
  sink_failed : Rose sink → (text : List ℕ) → IsTextOf steps shelf old new text → AppendsFront before after text → EndsAs steps shelf sink old new before after 12
  no_memory : (text : List ℕ) → IsTextOf steps shelf old new text → AppendsFront before after text → EndsAs steps shelf sink old new before after 13
  no_text : Halts steps old new → after ≡ before → EndsAs steps shelf sink old new before after 13

-- ---- the last step: printing a text that has its status

pub data PrintsAs (status : ℕ) (text : List ℕ) (sink : Counts) (before after : Option (List ℕ)) : ℕ → Type 0 where
  whole : Appends before after text → PrintsAs status text sink before after status
  failed : Rose sink → AppendsFront before after text → PrintsAs status text sink before after 12
  no_room : AppendsFront before after text → PrintsAs status text sink before after 13

-- how a command's steps end the program
abbrev pub FinishesAs : Result (Vec ℕ) Stop → Counts → Option (List ℕ) → Option (List ℕ) → ℕ → Type 0
FinishesAs (Ok text) sink before after status = PrintsAs 0 text.items sink before after status
FinishesAs (Err (stops.Ends cause line)) sink before after status = PrintsAs (status_of cause) line.items sink before after status
FinishesAs (Err (stops.Fault line)) sink before after status = PrintsAs 2 line.items sink before after status
FinishesAs (Err stops.NoMemory) sink before after status = (status ≡ 13) × (after ≡ before)
