use Rattle.std.proofs.Common.{◌≡◌, ℕ, ◌+◌, ◌*◌, [], length, take, slice_index_or}
use Rattle.std.specs.List.{enumerate_from, sum_by}
use Rattle.irt_base.specs.declared.plants.Traffic.{Traffic}
use Rattle.net_parcels.proofs.opening.rows_by_steps.Given as goal

abbrev pub invariant-loop-number : goal.invariant-loop-number
invariant-loop-number l =
    l.rows ≡ sum_by (λ (e : ℕ × Traffic). e.1.count * (length (slice_index_or l.steps e.0 []) + 1)) (take l.number (enumerate_from 0 l.entries))
