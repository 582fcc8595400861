use Rattle.std.proofs.Common.{◌≡◌, length}
use Rattle.iso_free.proofs.run.in_threads.Given as goal

abbrev pub invariant-loop-wire : goal.invariant-loop-wire
invariant-loop-wire g l = length l.away.items ≡ l._wire-index
