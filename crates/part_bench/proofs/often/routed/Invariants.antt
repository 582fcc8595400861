use Rattle.std.proofs.Common.{◌≡◌}
use Rattle.part_bench.proofs.often.routed.Given as goal

abbrev pub invariant-loop-round : goal.invariant-loop-round
invariant-loop-round l = l.done ≡ l._round
