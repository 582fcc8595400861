-- Legal records: what every run of accepted blocks over a world leaves behind, in whatever order its apps turn.
use Rattle.std.specs.Prelude.{◌≡◌, ℕ, ◌+◌, ◌<◌, ◌≤◌, false, nat_lt, ⊤, List, [], ◌∷◌, map, length, All, AllPairs, Some, None, option_map, slice_get}
use Rattle.std.specs.List.{last_or}
use Rattle.io_buffers.specs.Given.{Given, given}
use Rattle.io_buffers.specs.Passes.{publication}
use Rattle.io_buffers.specs.declared.taken.Taken.{Taken}
use Rattle.irt_base.specs.declared.limits.TheConstants.{MAX_SLIP}
use Rattle.irt_base.specs.declared.plants.App.{App}
use Rattle.iso_app.specs.Sealed.{sealed}
use Rattle.iso_rules.specs.Image.{IsImage}
use Rattle.iso_rules.specs.Lockstep.{AppLog, RunRecord, words_taken}
use Rattle.iso_rules.specs.Station.{output_count, output_lengths}
use Rattle.iso_rules.specs.Turns.{outputs_published, inputs_published}
use Rattle.iso_rules.specs.declared.turn.Turn.{Turn}
use Rattle.plan_rules.specs.Way.{Setup}
use Rattle.plan_rules.specs.World.{WorldRow}

-- 1. There is one output take and one image for each row of the world.
pub record HasEachCycle (cycles : ℕ) (log : AppLog) : Type 0 where
  pub takes : length log.takes ≡ cycles
  pub images : length log.images ≡ cycles

-- A take is the publication of its number, which exists, word by word.
pub record IsPublished (publications : List (List ℕ)) (t : Given) : Type 0 where
  pub made : t.taken.number < length publications
  pub whole : t.words ≡ publication publications t.taken.number

-- 2. So is each output take: number 0 is zeros, number N + 1 is what turn N put out.
abbrev pub HasWholeOutputs : Setup → ℕ → AppLog → Type 0
HasWholeOutputs setup device log = All (IsPublished (outputs_published setup device log.turns)) log.takes

-- 3. The images of an app are those of its device, over what was taken from all apps.
abbrev pub HasTrueImages : Setup → List WorldRow → (ℕ → ℕ → List ℕ) → ℕ → AppLog → Type 0
HasTrueImages setup world taken device log = (k : ℕ) (image : List ℕ) → slice_get log.images k ≡ Some image → IsImage setup world taken device k image

-- 4. Each turn's input is a publication of the app's input: number 0 is zeros, number k + 1 is the image after cycle k.
abbrev pub input_of : Turn → Given
input_of t = given t.taken t.input

abbrev pub HasWholeInputs : Setup → ℕ → AppLog → Type 0
HasWholeInputs setup device log = All (IsPublished (inputs_published setup device log.images)) (map input_of log.turns)

-- The numbers of takes never fall below one before, and a take is fresh exactly where its number is greater.
abbrev pub NeverFall : ℕ → List Taken → Type 0
NeverFall before [] = ⊤
NeverFall before (t ∷ ts) = (before ≤ t.number) × (t.fresh ≡ nat_lt before t.number) × NeverFall t.number ts

-- 5. On neither side do they, from 0 on.
pub record NeverFallsBack (log : AppLog) : Type 0 where
  pub outputs : NeverFall 0 (map (λ (t : Given). t.taken) log.takes)
  pub inputs : NeverFall 0 (map (λ (t : Turn). t.taken) log.turns)

-- Turns of which each finds more cycles done than the one before, and at least one, and the last one all of them.
pub record FindsAll (cycles : ℕ) (turns : List Turn) : Type 0 where
  pub some : All (λ (t : Turn). 1 ≤ t.found) turns
  pub rising : AllPairs (λ (a b : Turn). a.found < b.found) turns
  pub last : option_map (λ (t : Turn). t.found) (last_or None turns) ≡ Some cycles

-- The output of turn N is taken in cycle k: its input was published by k, and at most MAX_SLIP publications before.
pub record IsNear (k : ℕ) (t : Turn) : Type 0 where
  pub published : t.taken.number ≤ k
  pub slip : k ≤ t.taken.number + MAX_SLIP

-- 6. An app keeps up with the plant: each turn's input is at least as new as what it found, and each output taken is of a
-- turn whose input is near. The zeros that stand at the beginning are taken in the cycles up to MAX_SLIP alone.
pub record KeepsUp (cycles : ℕ) (log : AppLog) : Type 0 where
  pub finds : FindsAll cycles log.turns
  pub newest : All (λ (t : Turn). t.found ≤ t.taken.number) log.turns
  pub near : (k number : ℕ) (g : Given) (t : Turn) → slice_get log.takes k ≡ Some g → g.taken.number ≡ number + 1 →
      slice_get log.turns number ≡ Some t → IsNear k t
  pub opening : (k : ℕ) (g : Given) → slice_get log.takes k ≡ Some g → g.taken.number ≡ 0 → k ≤ MAX_SLIP

-- 7. Each turn puts out the app's reply to its input, sealed, and the app goes on with its next state.
abbrev pub Replies : {A : Type 0} → (A → List ℕ → ℕ → List ℕ) → (A → List ℕ → ℕ → A) → Setup → ℕ → A → List Turn → Type 0
Replies reply next setup device state [] = ⊤
Replies reply next setup device state (t ∷ turns) =
    (t.output ≡ sealed (output_lengths setup device) (reply state t.input (output_count setup device)))
    × Replies reply next setup device (next state t.input (output_count setup device)) turns

-- a take that was not in its window is not of the last publication
abbrev pub IsLateBefore : ℕ → Taken → Type 0
IsLateBefore last t = t.in_window ≡ false → t.number < last

-- 8. The last publication of the output is as many as there are turns, that of the input as many as there are cycles.
pub record HasWindows (cycles : ℕ) (log : AppLog) : Type 0 where
  pub outputs : All (λ (t : Given). IsLateBefore (length log.turns) t.taken) log.takes
  pub inputs : All (λ (t : Turn). IsLateBefore cycles t.taken) log.turns

-- all that is said of one app
pub record IsLegalLog {A : Type 0} (reply : A → List ℕ → ℕ → List ℕ) (next : A → List ℕ → ℕ → A) (setup : Setup) (world : List WorldRow)
    (taken : ℕ → ℕ → List ℕ) (device : ℕ) (state : A) (log : AppLog) : Type 0 where
  pub cycles : HasEachCycle (length world) log
  pub outputs : HasWholeOutputs setup device log
  pub images : HasTrueImages setup world taken device log
  pub inputs : HasWholeInputs setup device log
  pub numbers : NeverFallsBack log
  pub pace : KeepsUp (length world) log
  pub replies : Replies reply next setup device state log.turns
  pub windows : HasWindows (length world) log

-- The record is legal for accepted blocks, a world, and the plant's apps in their first states. `IsJournal` says which rows
-- the journal has.
pub record IsLegal {A Row : Type 0} (reply : A → List ℕ → ℕ → List ℕ) (next : A → List ℕ → ℕ → A) (setup : Setup)
    (world : List WorldRow) (firsts : List A) (IsJournal : List Row → Type 0) (r : RunRecord Row) : Type 0 where
  pub states : length firsts ≡ length setup.plant.apps
  pub count : length r.apps ≡ length setup.plant.apps
  pub apps : (n : ℕ) (app : App) (state : A) (log : AppLog) → slice_get setup.plant.apps n ≡ Some app → slice_get firsts n ≡ Some state →
      slice_get r.apps n ≡ Some log →
      IsLegalLog reply next setup world (words_taken (map (λ (l : AppLog). l.takes) r.apps)) app.device.0 state log
  pub journal : IsJournal r.journal
