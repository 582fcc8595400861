use Rattle.std.proofs.Common.{◌≡◌, ◌+◌, ◌++◌, take, map}
use Rattle.parcel_rules.specs.Rows.{lost_row}
use Rattle.net_parcels.proofs.rows.append_all_lost.Given as goal

abbrev pub invariant-loop-one : goal.invariant-loop-one
invariant-loop-one l =
    (l.journal.rows ≡ l.fn.journal.rows ++ map (lost_row l.k l.outlet.at) (take l.one-index l.outlet.sent))
    × (l.journal.room + l.one-index ≡ l.fn.journal.room)
