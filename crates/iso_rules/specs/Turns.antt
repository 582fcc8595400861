-- What apps take, turn and publish, where all goes in lockstep.
use Rattle.std.specs.Prelude.{ℕ, ◌+◌, true, nat_lt, List, [], ◌∷◌, ◌++◌, map, replicate}
use Rattle.io_buffers.specs.Given.{Given, given}
use Rattle.io_buffers.specs.Passes.{publication}
use Rattle.io_buffers.specs.declared.taken.Taken.{Taken}
use Rattle.iso_app.specs.Sealed.{sealed}
use Rattle.iso_rules.specs.Station.{output_count, input_count, output_lengths}
use Rattle.iso_rules.specs.declared.turn.Turn.{Turn}
use Rattle.plan_rules.specs.Way.{Setup}

-- An app in a run: its device, its state, and what happened so far. Takes and images stand by cycle, turns by number.
pub record AppRun (A : Type 0) : Type 0 where
  pub device : ℕ
  pub state : A
  -- what was taken from its output exchange
  pub takes : List Given
  -- what was published to its input exchange
  pub images : List (List ℕ)
  pub turns : List Turn

-- before the first cycle
abbrev pub new_run : {A : Type 0} → ℕ → A → AppRun A
new_run device state = record { device = device; state = state; takes = []; images = []; turns = [] }

-- the publications of an app's output exchange: number 0 is zeros, number N + 1 is what turn N put out
abbrev pub outputs_published : Setup → ℕ → List Turn → List (List ℕ)
outputs_published setup device turns = replicate (output_count setup device) 0 ∷ map (λ (t : Turn). t.output) turns

-- and of its input exchange: number 0 is zeros, number k + 1 is the image after cycle k
abbrev pub inputs_published : Setup → ℕ → List (List ℕ) → List (List ℕ)
inputs_published setup device images = replicate (input_count setup device) 0 ∷ images

-- A take of the newest publication, by a side that took the one before it last: it is fresh, but for number 0, which is
-- held from the beginning.
abbrev pub newest_taken : ℕ → Taken
newest_taken number = record { number = number; fresh = nat_lt 0 number; in_window = true }

-- Cycle k takes publication k of the app's output.
abbrev pub after_take : {A : Type 0} → Setup → ℕ → AppRun A → AppRun A
after_take setup k run =
    record run { takes = run.takes ++ given (newest_taken k) (publication (outputs_published setup run.device run.turns) k) ∷ [] }

-- It publishes the image as the next publication of the app's input.
abbrev pub after_image : {A : Type 0} → List ℕ → AppRun A → AppRun A
after_image image run = record run { images = run.images ++ image ∷ [] }

-- The turn that an app makes after cycle k: it finds k + 1 cycles done, takes publication k + 1 of its input, and puts out
-- its reply, sealed.
abbrev pub turn_after : {A : Type 0} → (A → List ℕ → ℕ → List ℕ) → Setup → ℕ → AppRun A → Turn
turn_after reply setup k run = record {
  found = k + 1;
  taken = newest_taken (k + 1);
  input = publication (inputs_published setup run.device run.images) (k + 1);
  output = sealed (output_lengths setup run.device)
      (reply run.state (publication (inputs_published setup run.device run.images) (k + 1)) (output_count setup run.device));
}

abbrev pub after_turn : {A : Type 0} → (A → List ℕ → ℕ → List ℕ) → (A → List ℕ → ℕ → A) → Setup → ℕ → AppRun A → AppRun A
after_turn reply next setup k run = record run {
  state = next run.state (publication (inputs_published setup run.device run.images) (k + 1)) (output_count setup run.device);
  turns = run.turns ++ turn_after reply setup k run ∷ [];
}
