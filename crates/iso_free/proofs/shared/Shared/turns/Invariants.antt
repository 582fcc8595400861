use Rattle.std.proofs.Common.{◌≡◌}
use Rattle.iso_free.proofs.shared.Shared.turns.Given as goal

abbrev pub invariant-loop : goal.invariant-loop
invariant-loop g l = l.job.number ≡ l.initial.job.number
