use Rattle.std.proofs.Common.{◌≡◌, Some, sym, ◌∙◌, ap, arith}
use Rattle.irt_window.proofs.Places.{one_entry}
use Rattle.irt_window.specs.Plans.{setup_in}
use Rattle.plan_schedule.proofs.PlannedLemmas.{planned_on}
use Rattle.plan_schedule.proofs.planned.planned_at.Goals as goal

pub planned_by-requires-clause-small : goal.planned_by-requires-clause-small
planned_by-requires-clause-small c = (c.way_of.ensures c.entry_of-entry.result c.entry_of-entry.ensures).small_latest

pub returns : goal.returns
returns c =
    let net = c.args.net.now in
    let e = c.entry_of-entry.result in
    let found = c.in-Some.ensures in
    let same : found.0 ≡ e = one_entry net.bundles.now c.args.device.0 c.in-Some.place found.0 e found.1 c.entry_of-entry.ensures in
    planned_on (setup_in net) (c.ways_are_one.ensures.parents (setup_in net) c.requires.net.plan.rules) (c.ways_are_one.ensures.windows (setup_in net) c.requires.net.plan.rules)
    c.args.device.0 c.args.frame.0 e c.way_of.result _ (found.2 ∙ ap Some same) (ap (λ x. x.frame.0) (sym same) ∙ found.3) (omega arith)
    (c.way_of.ensures e c.entry_of-entry.ensures) c.planned_by.ensures
