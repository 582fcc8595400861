use Rattle.std.proofs.Common.{arith}
use Rattle.net_parcels.specs.Outlets.{parcel_world, lost_rows_of}
use Rattle.net_parcels.proofs.Joined.{flat_map_within}
use Rattle.net_parcels.proofs.rows.append_lost.Goals as goal

pub append_lost_by-requires : goal.append_lost_by-requires
append_lost_by-requires c =
    let fits = flat_map_within (lost_rows_of c.args.site.now.plant (parcel_world c.args.row.now) c.args.k) c.args.outlets.now c.loop-outlet.outlet-index c.outlet-item.result
    c.loop-outlet-test.true c.outlet-item.is in
    let used = c.loop-outlet.invariant.1 in
    let room = c.requires.room in
    omega arith
