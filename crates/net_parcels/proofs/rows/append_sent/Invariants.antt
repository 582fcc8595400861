use Rattle.std.proofs.Common.{◌≡◌, ◌+◌, ◌++◌, take, length}
use Rattle.std.specs.Prelude.{flat_map}
use Rattle.net_parcels.specs.Outlets.{parcel_world, sent_rows_of}
use Rattle.net_parcels.proofs.rows.append_sent.Given as goal

abbrev pub invariant-loop-outlet : goal.invariant-loop-outlet
invariant-loop-outlet l =
    (l.journal.rows ≡ l.fn.journal.rows ++ flat_map (sent_rows_of l.plant (parcel_world l.row) l.k) (take l.outlet-index l.outlets))
    × (l.journal.room + length (flat_map (sent_rows_of l.plant (parcel_world l.row) l.k) (take l.outlet-index l.outlets)) ≡ l.fn.journal.room)
