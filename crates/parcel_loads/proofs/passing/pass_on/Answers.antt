use Rattle.parcel_rules.specs.Steps.{leaves_from}
use Rattle.std.proofs.Common.{find}
use Rattle.parcel_loads.proofs.Passings.{passed_on}
use Rattle.parcel_loads.proofs.passing.pass_on.Goals as goal

pub returns-in-Some-clause-passed : goal.returns-in-Some-clause-passed
returns-in-Some-clause-passed c =
    let step = c.in-Some.ensures in
    passed_on c.args.switch.now c.args.t.now c.args.handed (find (leaves_from c.args.handed.device) c.args.steps.now) c.in-Some.step c.offer.result
    c.if-t-handed.false step (c.offer.ensures.passed c.args.handed.device)
