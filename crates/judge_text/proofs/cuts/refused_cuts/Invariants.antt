use Rattle.std.proofs.Common.{◌≤◌}
use Rattle.judge_text.proofs.cuts.refused_cuts.Given as goal

abbrev pub invariant-loop-at : goal.invariant-loop-at
invariant-loop-at l = l.refused ≤ l.at
