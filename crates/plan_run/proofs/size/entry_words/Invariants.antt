use Rattle.std.proofs.Common.{◌≡◌, ◌+◌, ◌*◌, ◌^◌, ◌≤◌, drop, sum_by}
use Rattle.plan_run.specs.Size.{both_words}
use Rattle.plan_run.proofs.size.entry_words.Given as goal

abbrev pub invariant-loop-entry : goal.invariant-loop-entry
invariant-loop-entry l =
    (l.words + sum_by both_words (drop l.entry-index l.entries) ≡ sum_by both_words l.entries) × (l.words ≤ l.entry-index * 2 ^ 14)
