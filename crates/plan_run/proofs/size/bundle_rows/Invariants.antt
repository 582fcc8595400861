use Rattle.std.proofs.Common.{◌≡◌, ◌+◌, ◌*◌, ◌≤◌, drop, sum_by}
use Rattle.plan_run.specs.Size.{entry_rows}
use Rattle.plan_run.proofs.size.bundle_rows.Given as goal

abbrev pub invariant-loop-entry : goal.invariant-loop-entry
invariant-loop-entry l =
    (l.rows + sum_by entry_rows (drop l.entry-index l.entries) ≡ sum_by entry_rows l.entries) × (l.rows ≤ 256 * l.entry-index)
