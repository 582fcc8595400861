use Rattle.std.proofs.Common.{◌≡◌, ◌+◌, ◌*◌, ◌^◌, ◌≤◌, drop, sum_by}
use Rattle.plan_run.specs.Size.{bundle_rows}
use Rattle.plan_run.proofs.size.frame_rows.Given as goal

abbrev pub invariant-loop-bundle : goal.invariant-loop-bundle
invariant-loop-bundle l =
    (l.rows + sum_by bundle_rows (drop l.bundle-index l.bundles) ≡ sum_by bundle_rows l.bundles) × (l.rows ≤ l.bundle-index * 2 ^ 17)
