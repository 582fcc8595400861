use Rattle.std.proofs.Common.{subst, sym}
use Rattle.std.proofs.lemmas.List.Sums.{fold-append}
use Rattle.net_parcels.specs.Gates.{HoldOffers}
use Rattle.parcel_rules.specs.Loads.{hand_over}
use Rattle.parcel_rules.specs.Made.{made_in}
use Rattle.net_parcels.proofs.Folded.{still_some}
use Rattle.net_parcels.proofs.handing.hand_over_all.Goals as goal

pub hand_over_made-requires-clause-held : goal.hand_over_made-requires-clause-held
hand_over_made-requires-clause-held c =
    let (walks, are) = c.requires.walks in
    still_some _ _ _ _ _ _ _ c.args.flight.now.handed c.hand_over_flight.ensures.rules walks are c.requires.held

pub returns-clause-rules : goal.returns-clause-rules
returns-clause-rules c = λ bundles row walks o are holds.
    subst (HoldOffers c.args.plant.now bundles row c.args.k _ _)
    (sym (fold-append (hand_over c.args.plant.now walks c.args.k) o c.args.flight.now.handed (made_in c.args.plant.now c.args.k)))
    (c.hand_over_made.ensures.rules bundles row walks _ are (c.hand_over_flight.ensures.rules bundles row walks o are holds))
