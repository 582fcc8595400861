-- What is asked of what the cycles take from an output.
use Rattle.std.specs.Prelude.{◌≡◌, ℕ, ◌+◌, ◌≤◌, List, Some, slice_get}
use Rattle.io_buffers.specs.Given.{Given}
use Rattle.irt_base.specs.declared.limits.TheConstants.{MAX_SLIP}
use Rattle.iso_rules.specs.Legal.{IsNear}
use Rattle.iso_rules.specs.declared.turn.Turn.{Turn}

-- A take of cycle k, by its number: the zeros of the beginning, number 0, come in the cycles up to MAX_SLIP alone.
-- What turn N put out, number N + 1, is of a near input, where there is such a turn.
pub record IsTakenNear (k taken : ℕ) (turns : List Turn) : Type 0 where
  pub opening : taken ≡ 0 → k ≤ MAX_SLIP
  pub near : (number : ℕ) (t : Turn) → taken ≡ number + 1 → slice_get turns number ≡ Some t → IsNear k t

-- so is each take, by its cycle
abbrev pub AreTakenNear : List Given → List Turn → Type 0
AreTakenNear takes turns = (k : ℕ) (g : Given) → slice_get takes k ≡ Some g → IsTakenNear k g.taken.number turns
