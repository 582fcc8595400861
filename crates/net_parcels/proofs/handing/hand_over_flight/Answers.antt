use Rattle.std.proofs.Common.{arith, take}
use Rattle.net_parcels.proofs.Folded.{still_some, one_handed, next_handed, whole_handed}
use Rattle.net_parcels.proofs.handing.hand_over_flight.Goals as goal

pub hand_over-requires-clause-held : goal.hand_over-requires-clause-held
hand_over-requires-clause-held c =
    let (walks, are) = c.requires.walks in
    still_some _ _ _ _ _ _ _ (take c.loop-place.place c.args.flight.now.handed) c.loop-place.invariant.rules walks are c.requires.held

pub loop-place-preserved : goal.loop-place-preserved
loop-place-preserved c =
    next_handed _ _ _ _ _ _ _ _ _ c.args.flight.now.handed c.loop-place.place _ c.handed_at-handed.ensures c.loop-place.invariant
    (one_handed _ _ _ _ _ _ _ _ c.hand_over.ensures.rules c.hand_over.ensures.kept c.hand_over.ensures.one c.hand_over.ensures.room)

pub returns-clause-rules : goal.returns-clause-rules
returns-clause-rules c = (whole_handed _ _ _ _ _ _ _ _ _ c.loop-place.invariant (omega arith)).rules
