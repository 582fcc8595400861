use Rattle.std.proofs.Common.{◌≡◌, ◌≤◌, length, take, vec_capacity}
use Rattle.irt_net.specs.Came.{came_in}
use Rattle.irt_net.proofs.came.note_rows.Given as goal

abbrev pub invariant-loop-row : goal.invariant-loop-row
invariant-loop-row l =
    (l.came.items ≡ came_in l.site.plant (take l.row-index l.rows)) × (vec_capacity l.came ≡ vec_capacity l.fn.came)
    × (length l.came.items ≤ l.row-index)
