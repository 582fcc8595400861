-- What a take gives.
use Rattle.std.specs.Prelude.{ℕ, List}
use Rattle.io_buffers.specs.declared.taken.Taken.{Taken}

-- a take: its answer, and the words that it put out
pub record Given : Type 0 where
  pub taken : Taken
  pub words : List ℕ

abbrev pub given : Taken → List ℕ → Given
given taken words = record { taken = taken; words = words }
