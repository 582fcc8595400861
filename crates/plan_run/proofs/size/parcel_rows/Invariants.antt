use Rattle.std.proofs.Common.{◌≡◌, ◌+◌, ◌*◌, ◌^◌, ◌≤◌, drop, sum_by}
use Rattle.std.specs.List.{enumerate_from}
use Rattle.plan_run.specs.Size.{entry_parcels}
use Rattle.plan_run.proofs.size.parcel_rows.Given as goal

abbrev pub invariant-loop-number : goal.invariant-loop-number
invariant-loop-number l =
    (l.rows + sum_by (entry_parcels l.routes.walks) (enumerate_from l.number (drop l.number l.traffic))
    ≡ sum_by (entry_parcels l.routes.walks) (enumerate_from 0 l.traffic))
    × (l.rows ≤ l.number * 2 ^ 80)
