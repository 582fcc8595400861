-- Which words ask for what.
use Rattle.std.specs.Prelude.{◌≢◌, ◌≤◌, ℕ, ◌^◌, ◌&&◌, nat_lt, nat_le, Bool, true, false, decimal, List, [], ◌∷◌, map, codes, string_bytes, String, Option, Some, None, is_some, option_and_then, bytes_eq, if◌then◌else◌}
use Rattle.std.specs.Str.Parse.{digits_value}
use Rattle.std.specs.declared.alloc.Global.{Global}
use Rattle.irt_base.specs.Valid.{IsWithin}
use Rattle.irt_base.specs.declared.limits.TheConstants.{MAX_CYCLES, MAX_DEVICES, MAX_DEMANDS}
use Rattle.clap.specs.Words.{Kinds, Row, Text, fault_of, first_of, subcommand_of}
use Rattle.irt_words.specs.Commands.{Command, plan, check, show, sync, run, run_world, gen, free}
use Rattle.irt_words.specs.Grammar.{irt_app}
use Rattle.irt_words.specs.declared.asked.TheConstants.{MIN_GENERATED, MAX_SEED}

infixl 10 ◌>>=◌
abbrev ◌>>=◌ : {A B : Type 0} → Option A → (A → Option B) → Option B
o >>= f = option_and_then f o

abbrev pub texts_of : List (String Global) → List Text
texts_of words = map (λ w. string_bytes w) words

-- ---- one argument

-- a file's name is not empty
abbrev pub as_file : Text → Option Text
as_file [] = None
as_file (letter ∷ more) = Some (letter ∷ more)

-- the number of 64 bits that a text writes as it is printed
abbrev pub as_number : Text → Option ℕ
as_number text =
    let n = digits_value 10 text in
    if nat_lt n (2 ^ 64) && bytes_eq text (decimal n) then Some n else None

abbrev pub as_within : ℕ → ℕ → ℕ → Option ℕ
as_within least most n = if nat_le least n && nat_le n most then Some n else None

abbrev pub file_in : Text → List Row → Option Text
file_in name rows = first_of name rows >>= as_file

abbrev pub number_in : Text → ℕ → ℕ → List Row → Option ℕ
number_in name least most rows = first_of name rows >>= as_number >>= as_within least most

abbrev pub cycles_in : List Row → Option ℕ
cycles_in rows = number_in (codes "cycles") 1 MAX_CYCLES rows

abbrev pub seed_in : List Row → Option ℕ
seed_in rows = number_in (codes "seed") 0 MAX_SEED rows

-- ---- the arguments of a subcommand

abbrev pub plan_in : List Row → Option Command
plan_in rows = file_in (codes "plant") rows >>= λ plant. Some (plan plant)

abbrev pub check_in : List Row → Option Command
check_in rows = file_in (codes "plant") rows >>= λ plant. Some (check plant)

abbrev pub show_in : List Row → Option Command
show_in rows = file_in (codes "file") rows >>= λ file. Some (show file)

abbrev pub sync_in : List Row → Option Command
sync_in rows = do
  plant ← file_in (codes "plant") rows
  cycles ← cycles_in rows
  seed ← seed_in rows
  Some (sync plant cycles seed)

abbrev pub run_seed_in : List Row → Option Command
run_seed_in rows = do
  plant ← file_in (codes "plant") rows
  cycles ← cycles_in rows
  seed ← seed_in rows
  Some (run plant cycles seed)

abbrev pub run_world_in : List Row → Option Command
run_world_in rows = do
  plant ← file_in (codes "plant") rows
  cycles ← cycles_in rows
  world ← file_in (codes "world") rows
  Some (run_world plant cycles world)

-- exactly one of a seed and a world's file
abbrev pub run_in : List Row → Option Command
run_in rows =
    if is_some (first_of (codes "world") rows)
    then (if is_some (first_of (codes "seed") rows) then None else run_world_in rows)
    else run_seed_in rows

abbrev pub gen_in : List Row → Option Command
gen_in rows = do
  seed ← seed_in rows
  devices ← number_in (codes "devices") MIN_GENERATED MAX_DEVICES rows
  frames ← number_in (codes "frames") 0 MAX_DEMANDS rows
  name ← file_in (codes "name") rows
  Some (gen seed devices frames name)

abbrev pub free_in : List Row → Option Command
free_in rows = do
  plant ← file_in (codes "plant") rows
  cycles ← cycles_in rows
  seed ← seed_in rows
  Some (free plant cycles seed)

-- ---- all words

abbrev pub command_in : Text → List Row → Option Command
command_in name rows =
    if bytes_eq name (codes "plan") then plan_in rows
    else if bytes_eq name (codes "check") then check_in rows
    else if bytes_eq name (codes "show") then show_in rows
    else if bytes_eq name (codes "sync") then sync_in rows
    else if bytes_eq name (codes "run") then run_in rows
    else if bytes_eq name (codes "gen") then gen_in rows
    else if bytes_eq name (codes "free") then free_in rows
    else None

abbrev pub found_command : Option (Text × List Row) → Option Command
found_command found = found >>= λ subcommand. command_in subcommand.0 subcommand.1

abbrev pub is_free_of : Kinds → Bool
is_free_of [] = true
is_free_of (kind ∷ more) = false

-- What words ask for, if anything: `clap` finds no fault in them, and no number or file's name is refused.
unfoldable pub asked_of : List Text → Option Command
asked_of words =
    if is_free_of (fault_of irt_app words) then found_command (subcommand_of irt_app words) else None

-- ---- the stated forms

-- the words that state a command
abbrev pub words_of : Command → List Text
words_of (plan plant) = codes "plan" ∷ plant ∷ []
words_of (check plant) = codes "check" ∷ plant ∷ []
words_of (show file) = codes "show" ∷ file ∷ []
words_of (sync plant cycles seed) = codes "sync" ∷ plant ∷ decimal cycles ∷ decimal seed ∷ []
words_of (run plant cycles seed) = codes "run" ∷ plant ∷ decimal cycles ∷ decimal seed ∷ []
words_of (run_world plant cycles world) = codes "run" ∷ plant ∷ decimal cycles ∷ codes "--world" ∷ world ∷ []
words_of (gen seed devices frames name) = codes "gen" ∷ decimal seed ∷ decimal devices ∷ decimal frames ∷ name ∷ []
words_of (free plant cycles seed) = codes "free" ∷ plant ∷ decimal cycles ∷ decimal seed ∷ []

-- a file's name is not empty, and does not begin with `-`
abbrev pub IsFileWord : Text → Type 0
IsFileWord [] = ⊥
IsFileWord (letter ∷ more) = letter ≢ 45

abbrev pub AreSeeded : Text → ℕ → ℕ → Type 0
AreSeeded plant cycles seed = IsFileWord plant × IsWithin 1 MAX_CYCLES cycles × (seed ≤ MAX_SEED)

-- each number is in its range, and each file's name is a file word
abbrev pub IsStated : Command → Type 0
IsStated (plan plant) = IsFileWord plant
IsStated (check plant) = IsFileWord plant
IsStated (show file) = IsFileWord file
IsStated (sync plant cycles seed) = AreSeeded plant cycles seed
IsStated (run plant cycles seed) = AreSeeded plant cycles seed
IsStated (run_world plant cycles world) = IsFileWord plant × IsWithin 1 MAX_CYCLES cycles × IsFileWord world
IsStated (gen seed devices frames name) =
    (seed ≤ MAX_SEED) × IsWithin MIN_GENERATED MAX_DEVICES devices × (frames ≤ MAX_DEMANDS) × IsFileWord name
IsStated (free plant cycles seed) = AreSeeded plant cycles seed
