use Rattle.std.proofs.Common.{◌≡◌, ◌+◌, ◌++◌, take}
use Rattle.net_parcels.proofs.rows.append.Given as goal

abbrev pub invariant-loop-row : goal.invariant-loop-row
invariant-loop-row l =
    (l.journal.rows ≡ l.fn.journal.rows ++ take l.row-index l.rows) × (l.journal.room + l.row-index ≡ l.fn.journal.room)
