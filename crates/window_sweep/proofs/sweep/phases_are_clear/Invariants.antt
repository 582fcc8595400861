use Rattle.std.proofs.Common.{◌≡◌, ◌<◌, ℕ, None, true}
use Rattle.window_sweep.specs.Steps.{steps}
use Rattle.window_sweep.proofs.sweep.phases_are_clear.Given as goal

abbrev pub invariant-loop-k : goal.invariant-loop-k
invariant-loop-k l = (j : ℕ) → j < l.k → steps l.window j None l.sorted ≡ true
