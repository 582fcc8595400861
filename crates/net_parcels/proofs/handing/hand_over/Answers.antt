use Rattle.net_parcels.proofs.Offering.{walk_there, step_has_port, handed_over_at, keeps_all}
use Rattle.net_parcels.proofs.handing.hand_over.Goals as goal

pub pass_on-passed-requires : goal.pass_on-passed-requires
pass_on-passed-requires c =
    let (bundles, row, o, holds) = c.requires.held in
    step_has_port c.args.plant.now bundles row c.args.k c.args.switches.now c.args.notes.now o holds c.args.handed c.from.result c.index-switches-from.result c.from.ensures
    c.requires.device c.args.steps.now c.requires.steps c.from-number.result c.in-Some-Some.walk.now c.as_slice.result.now (walk_there c.args.steps.now c.from-number.result c.in-Some-Some.walk.now c.in-Some-Some.ensures'.lookup.3.0 c.in-Some-Some.ensures'.lookup.1)
    c.as_slice.ensures

pub returns-clause-rules : goal.returns-clause-rules
returns-clause-rules c = λ bundles row walks o are holds.
    handed_over_at c.args.plant.now bundles row c.args.k c.args.switches.now c.args.notes.now o holds c.args.handed c.from.result c.index-switches-from.result c.from.ensures
    c.requires.device c.args.steps.now c.requires.steps c.from-number.result c.in-Some-Some.walk.now c.as_slice.result.now (walk_there c.args.steps.now c.from-number.result c.in-Some-Some.walk.now c.in-Some-Some.ensures'.lookup.3.0 c.in-Some-Some.ensures'.lookup.1)
    c.as_slice.ensures c.passing_follows_the_rules.ensures walks are c.from-number.ensures c.in-Some-Some.entry.now c.in-Some-Some.ensures
    c.pass_on-passed.result c.pass_on-passed.ensures.passed c.pass_on-passed.new.switch c.pass_on-passed.ensures.switch c.note.new.self c.note.ensures

pub returns-clause-kept : goal.returns-clause-kept
returns-clause-kept c =
    keeps_all _ _ _ _ c.in-Some-Some.entry.now.«class» c.args.handed.parcel c.pass_on-passed.result c.pass_on-passed.ensures.switch
