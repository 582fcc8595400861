use Rattle.std.proofs.Common.{arith, ◌*◌, ◌/◌}
use Rattle.net_parcels.proofs.Folded.{still_some, one_handed, next_made, made_first, made_count, made_done}
use Rattle.net_parcels.proofs.handing.hand_over_made_by.Goals as goal

pub hand_over-requires-clause-held : goal.hand_over-requires-clause-held
hand_over-requires-clause-held c =
    let (walks, are) = c.requires.walks in
    still_some _ _ _ _ _ _ _ (made_first c.args.number c.args.entry.now (c.args.k / c.args.entry.now.every * c.args.entry.now.count) c.loop-place.place) c.loop-place.invariant.rules walks are c.requires.held

pub hand_over-requires-clause-room : goal.hand_over-requires-clause-room
hand_over-requires-clause-room c =
    let few = c.loop-place.invariant.few in
    let room = c.loop-place.invariant.room in
    let fits = c.requires.room in
    let count = made_count c.args.number c.args.entry.now (c.args.k / c.args.entry.now.every * c.args.entry.now.count) c.loop-place.place in
    omega arith

pub loop-place-preserved : goal.loop-place-preserved
loop-place-preserved c =
    next_made _ _ _ _ _ _ _ _ _ c.args.number c.args.entry.now _ c.loop-place.place _ c.made-handed.ensures c.loop-place.invariant
    (one_handed _ _ _ _ _ _ _ _ c.hand_over.ensures.rules c.hand_over.ensures.kept c.hand_over.ensures.one c.hand_over.ensures.room)

pub returns-clause-rules : goal.returns-clause-rules
returns-clause-rules c =
    (made_done _ _ _ _ _ _ _ c.args.number c.args.entry.now c.loop-place.place c.loop-place.invariant (omega arith) (c.if-not-makes.ensures)).rules

pub returns-clause-few : goal.returns-clause-few
returns-clause-few c =
    let few = c.loop-place.invariant.few in
    let count = made_count c.args.number c.args.entry.now (c.args.k / c.args.entry.now.every * c.args.entry.now.count) c.loop-place.place in
    let end = c.loop-place.auto.place-end in
    omega arith
