use Rattle.std.proofs.Common.{◌≤◌, sym, subst, vec_capacity}
use Rattle.irt_net.proofs.Cycles.{on_ok, reserved}
use Rattle.irt_net.specs.Net.{Carries, HasRoomFor, NetState}
use Rattle.parcel_rules.specs.Loads.{no_loads}
use Rattle.irt_net.proofs.net.Net.reserve.Goals as goal

pub returns-clause-ok : goal.returns-clause-ok
returns-clause-ok c =
    let view = c.self.view_is in
    on_ok (c.in-Some.rows ≤ c.reserve.new.self.room) (HasRoomFor c.args.self.now c.args.cycles c.reserve.new.self.room) c.reserve.result
    (λ enough. subst (λ (n : NetState). HasRoomFor n c.args.cycles c.reserve.new.self.room) view
    (reserved c.parcels_keep_to_their_room.ensures.start c.self.inside.parts.site c.self.inside.parts.tables.switches.items c.self.inside.parts.parcels c.self.inside.parts.tables.queue
    (vec_capacity c.self.inside.parts.tables.came) c.self.inside.parts.most c.self.inside.parts.tables.came.items c.args.cycles c.in-Some.rows c.reserve.new.self.room c.self.invariant
    (subst (λ (n : NetState). Carries n no_loads) (sym view) (record { gates = c.requires.gates; flight = c.requires.flight }))
    (c.in-Some.ensures {u = tt}).1 enough))
    c.reserve.ensures.ok
