use Rattle.std.proofs.Common.{arith}
use Rattle.std.proofs.lemmas.List.{length-map}
use Rattle.parcel_rules.specs.Rows.{sent_row}
use Rattle.net_parcels.specs.Outlets.{parcel_world, sent_rows_of}
use Rattle.net_parcels.proofs.Joined.{flat_map_within}
use Rattle.net_parcels.proofs.rows.append_sent.Goals as goal

pub append_sent_by-requires-clause-room : goal.append_sent_by-requires-clause-room
append_sent_by-requires-clause-room c =
    let fits = flat_map_within (sent_rows_of c.args.plant.now (parcel_world c.args.row.now) c.args.k) c.args.outlets.now c.loop-outlet.outlet-index c.outlet-item.result
    c.loop-outlet-test.true c.outlet-item.is in
    let count = length-map c.outlet-item.result.sent (sent_row c.args.plant.now (parcel_world c.args.row.now) c.args.k c.outlet-item.result.at) in
    let used = c.loop-outlet.invariant.1 in
    let room = c.requires.room in
    omega arith
