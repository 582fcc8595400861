-- What the turns of a free run publish, and what its cycles record of that.
use Rattle.std.specs.Prelude.{◌≡◌, ℕ, ◌+◌, ◌<◌, ◌≤◌, List, [], ◌∷◌, ◌++◌, length, map, replicate, All, Some, slice_get}
use Rattle.io_buffers.specs.Given.{Given}
use Rattle.irt_base.specs.declared.limits.TheConstants.{MAX_SLIP}
use Rattle.iso_app.specs.Sealed.{sealed}
use Rattle.iso_rules.specs.Legal.{IsLateBefore, IsNear, IsPublished, NeverFall}
use Rattle.iso_rules.specs.declared.turn.Turn.{Turn}
use Rattle.take_lists.specs.Takes.{AreFresh, AreNearTakes, AreTakesOf}

-- what a turn publishes: its output, and as a further word the number of its input
abbrev pub output_row : Turn → List ℕ
output_row t = t.output ++ t.taken.number ∷ []

-- all publications of an output of so many words: number 0 is zeros, number N + 1 is that of turn N
abbrev pub output_rows : ℕ → List Turn → List (List ℕ)
output_rows words turns = replicate (words + 1) 0 ∷ map output_row turns

-- the same without the further word
abbrev pub outputs : ℕ → List Turn → List (List ℕ)
outputs words turns = replicate words 0 ∷ map (λ (t : Turn). t.output) turns

-- the outputs are the app's sealed replies, and this is its state after the turns
abbrev pub RepliesUpTo :
    {A : Type 0} → (A → List ℕ → ℕ → List ℕ) → (A → List ℕ → ℕ → A) → List ℕ → ℕ → A → List Turn → A → Type 0
RepliesUpTo reply next lengths words state [] after = after ≡ state
RepliesUpTo reply next lengths words state (t ∷ turns) after =
    (t.output ≡ sealed lengths (reply state t.input words)) × RepliesUpTo reply next lengths words (next state t.input words) turns after

-- Each turn finds more cycles than the one before, and takes an input of at least this number. Before the first one
-- `before` cycles were found, and the last one finds `found`.
abbrev pub FindsMore : ℕ → List Turn → ℕ → Type 0
FindsMore before [] found = found ≡ before
FindsMore before (t ∷ turns) found = (before < t.found) × (t.found ≤ t.taken.number) × FindsMore t.found turns found

-- the takes that the cycles of a run make of an app's output, with their further words
pub record AreCycleTakes (words : ℕ) (turns : List Turn) (takes : List Given) : Type 0 where
  pub of : AreTakesOf (output_rows words turns) takes
  pub last : ℕ
  pub fresh : AreFresh 0 takes last
  pub near : AreNearTakes 0 takes

-- What the record of a run says of them, without their further words.
pub record AreLegalTakes (words : ℕ) (turns : List Turn) (takes : List Given) : Type 0 where
  pub whole : All (IsPublished (outputs words turns)) takes
  pub numbers : NeverFall 0 (map (λ (t : Given). t.taken) takes)
  pub near : (k number : ℕ) (g : Given) (t : Turn) → slice_get takes k ≡ Some g → g.taken.number ≡ number + 1 →
      slice_get turns number ≡ Some t → IsNear k t
  pub opening : (k : ℕ) (g : Given) → slice_get takes k ≡ Some g → g.taken.number ≡ 0 → k ≤ MAX_SLIP
  pub windows : All (λ (t : Given). IsLateBefore (length turns) t.taken) takes
