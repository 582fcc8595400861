use Rattle.std.proofs.Common.{◌<◌, ◌+◌, ℕ, get_or, length}
use Rattle.irt_base.specs.Valid.{frames_of}
use Rattle.block_values.proofs.frames.ascends.Given as goal

abbrev pub invariant-loop-index : goal.invariant-loop-index
invariant-loop-index l = (k : ℕ) → k + 1 < l.index → k + 1 < length l.entries → get_or (frames_of l.entries) k 0 < get_or (frames_of l.entries) (k + 1) 0
