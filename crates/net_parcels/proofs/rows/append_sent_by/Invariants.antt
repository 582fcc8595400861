use Rattle.std.proofs.Common.{◌≡◌, ◌+◌, ◌++◌, take, map}
use Rattle.parcel_rules.specs.Rows.{sent_row}
use Rattle.net_parcels.specs.Outlets.{parcel_world}
use Rattle.net_parcels.proofs.rows.append_sent_by.Given as goal

abbrev pub invariant-loop-one : goal.invariant-loop-one
invariant-loop-one l =
    (l.journal.rows ≡ l.fn.journal.rows ++ map (sent_row l.plant (parcel_world l.row) l.k l.outlet.at) (take l.one-index l.outlet.sent))
    × (l.journal.room + l.one-index ≡ l.fn.journal.room)
