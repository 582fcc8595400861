use Rattle.std.proofs.Common.{◌≡◌, ◌*◌, ◌≤◌, take, length}
use Rattle.std.specs.Prelude.{flat_map}
use Rattle.period_gate.specs.declared.queue.TheConstants.{QUEUE_ROOM}
use Rattle.net_parcels.specs.Outlets.{parcel_world, brought_to}
use Rattle.net_parcels.proofs.bringing.bring_all.Given as goal

abbrev pub invariant-loop-outlet : goal.invariant-loop-outlet
invariant-loop-outlet l =
    (l.flight ≡ record l.fn.flight { handed = flat_map (brought_to l.site.plant (parcel_world l.row) l.outlets) (take l.outlet-index l.outlets) })
    × (length l.flight.handed ≤ l.outlet-index * (2 * QUEUE_ROOM))
