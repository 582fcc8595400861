-- What a call of the program finds and leaves, and what its status means.
use Rattle.std.specs.Prelude.{◌≡◌, ◌≢◌, ℕ, ◌⊎◌, List, Option, Some, None, String}
use Rattle.std.specs.declared.alloc.Global.{Global}
use Rattle.irt_io.specs.Files.{Files}
use Rattle.irt_io.specs.Taken.{Appends}
use Rattle.irt_steps.specs.Ended.{Counts, Rose, EndsAs}
use Rattle.irt_steps.specs.Steps.{Ending, IsButFor}
use Rattle.irt_words.specs.Asked.{asked_of, texts_of, words_of, IsStated}
use Rattle.irt_words.specs.Commands.{Command, plan, check}
use Rattle.irt_top.specs.Cause.{IsCauseOf}
use Rattle.irt_top.specs.Check.{IsSafePlan}
use Rattle.irt_top.specs.Commands.{StoresFiles, asked_steps, calm_of}
use Rattle.irt_top.specs.Gen.{GenAsked, gen_asked, IsPlantStored}
use Rattle.irt_top.specs.Plan.{IsStoredPlan, IsPlanInOrder}
use Rattle.irt_top.specs.Run.{RunAsked, run_asked, IsSafeRunText}

-- the words and what they ask for, and the shelf and the sink before the call and after it
pub record Call : Type 0 where
  pub words : List (List ℕ)
  pub asked : Option Command
  pub files : Option Files
  pub files_after : Option Files
  pub shelf : Counts
  pub taken : Option (List ℕ)
  pub taken_after : Option (List ℕ)
  pub sink : Counts

abbrev pub Words : Type 0
Words = List (String Global)

-- the call of these words, by what a shelf and a sink tell
abbrev pub call : {S K : Type 0} → (S → Option Files) → (S → ℕ) → (K → Option (List ℕ)) → (K → ℕ) → Words → S → S → K → K → Call
call files shelf_faults taken sink_faults words shelf shelf_after sink sink_after = record {
  words = texts_of words;
  asked = asked_of (texts_of words);
  files = files shelf;
  files_after = files shelf_after;
  shelf = record { before = shelf_faults shelf; now = shelf_faults shelf_after };
  taken = taken sink;
  taken_after = taken sink_after;
  sink = record { before = sink_faults sink; now = sink_faults sink_after };
}

-- the same of a call that waits for nobody, and takes `free` for no command
abbrev pub calm_call : {S K : Type 0} → (S → Option Files) → (S → ℕ) → (K → Option (List ℕ)) → (K → ℕ) → Words → S → S → K → K → Call
calm_call files shelf_faults taken sink_faults words shelf shelf_after sink sink_after =
    record (call files shelf_faults taken sink_faults words shelf shelf_after sink sink_after) {
      asked = calm_of (asked_of (texts_of words));
    }

-- The call ends as the steps of what it is asked for do.
abbrev pub FollowsSteps : Call → ℕ → Type 0
FollowsSteps c status = EndsAs (asked_steps c.asked) c.shelf c.sink c.files c.files_after c.taken c.taken_after status

-- a fault of the shelf or the sink, or want of memory
pub data IsFaulty : ℕ → Type 0 where
  shelf_fault : IsFaulty 2
  sink_fault : IsFaulty 12
  no_memory : IsFaulty 13

-- A text that has this status was printed, with its cause.
pub record IsCaused (c : Call) (status : ℕ) : Type 0 where
  pub ending : Ending
  pub cause : IsCauseOf c.files c.asked ending
  pub status_is : ending.status ≡ status
  pub printed : Appends c.taken c.taken_after ending.text

-- Each status tells its cause, but for faults and want of memory.
abbrev pub TellsCause : Call → ℕ → Type 0
TellsCause c status = IsFaulty status ⊎ IsCaused c status

-- Over files that are told, whatever cause holds, the status is its, but for faults and want of memory.
abbrev pub HasEveryCause : Call → ℕ → Type 0
HasEveryCause c status = (files : Files) (e : Ending) → c.files ≡ Some files → IsCauseOf (Some files) c.asked e →
    (status ≡ e.status) ⊎ IsFaulty status

-- What `plan` stores is first fit's plan, and safe over every world.
abbrev pub StoresSafePlan : Call → ℕ → Type 0
StoresSafePlan c status =
    status ≡ 0 → (name : List ℕ) → c.asked ≡ Some (plan name) → IsStoredPlan c.files c.files_after name

-- Whatever becomes of it, `plan` changes no file but those of the devices, one after the other.
abbrev pub StoresInOrder : Call → Type 0
StoresInOrder c = (name : List ℕ) → c.asked ≡ Some (plan name) →
    (c.files_after ≡ c.files) ⊎ IsPlanInOrder c.files c.files_after name

-- Whatever becomes of it, `gen` changes no file but the one of its name; and but for faults and want of memory that holds
-- the plant, also where the command is refused.
abbrev pub StoresPlant : Call → ℕ → Type 0
StoresPlant c status = (made : GenAsked) → gen_asked c.asked ≡ Some made →
    IsButFor c.files c.files_after made.name × (¬ IsFaulty status → IsPlantStored c.files_after made)

-- A command that stores no files changes none, and but for `gen` a command that is refused changes none either.
pub record KeepsFiles (c : Call) (status : ℕ) : Type 0 where
  pub stores_none : ¬ StoresFiles c.asked → c.files_after ≡ c.files
  pub refused : status ≢ 0 → ¬ IsFaulty status → gen_asked c.asked ≡ None → c.files_after ≡ c.files

-- A plan that is accepted is safe over every world.
abbrev pub IsSafeWhereAccepted : Call → ℕ → Type 0
IsSafeWhereAccepted c status =
    status ≡ 0 → (name : List ℕ) → c.asked ≡ Some (check name) → IsSafePlan c.files name

-- What a run prints is the text of exactly one record: of the plan that the files spell, over the world of the words, in
-- lockstep or with free threads as they say. The plan's rules hold, and the run is safe.
abbrev pub RunsSafely : Call → ℕ → Type 0
RunsSafely c status = status ≡ 0 → (asked : RunAsked) → run_asked c.asked ≡ Some asked →
    (text : List ℕ) × Appends c.taken c.taken_after text × IsSafeRunText c.files asked text

-- Words that ask for nothing are told so, and no other words are.
abbrev pub TellsUsage : Call → ℕ → Type 0
TellsUsage c status = (status ≡ 1 → c.asked ≡ None) × (c.asked ≡ None → (status ≡ 1) ⊎ (status ≡ 12) ⊎ (status ≡ 13))

-- Words that state a command are never usage.
abbrev pub TakesStated : Call → ℕ → Type 0
TakesStated c status = (command : Command) → IsStated command → c.words ≡ words_of command → status ≢ 1

-- the same of a call that waits for nobody: words that state `free` are
abbrev pub TakesCalm : Call → ℕ → Type 0
TakesCalm c status = (command : Command) → IsStated command → calm_of (Some command) ≡ Some command →
    c.words ≡ words_of command → status ≢ 1

-- Faults were counted.
abbrev pub TellsFaults : Call → ℕ → Type 0
TellsFaults c status = (status ≡ 2 → Rose c.shelf) × (status ≡ 12 → Rose c.sink)

-- every status that there is
pub data IsStatus : ℕ → Type 0 where
  done : IsStatus 0
  usage : IsStatus 1
  absent : IsStatus 3
  too_long : IsStatus 4
  plant : IsStatus 5
  no_walk : IsStatus 6
  malformed : IsStatus 7
  reject : IsStatus 8
  overrun : IsStatus 9
  world : IsStatus 10
  long_run : IsStatus 11
  faulty : {status : ℕ} → IsFaulty status → IsStatus status
