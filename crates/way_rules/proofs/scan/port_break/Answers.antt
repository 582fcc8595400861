use Rattle.std.proofs.Common.{sym, subst}
use Rattle.std.proofs.lemmas.Bool.{iff_false}
use Rattle.plan_rules.specs.Places.{IsAt, IsLeastOf}
use Rattle.plan_rules.specs.declared.place.Place.{Place}
use Rattle.way_rules.specs.Scan.{AtFrame}
use Rattle.way_rules.proofs.Entries.{placed_at, port_more, port_holds, port_breaks}
use Rattle.way_rules.proofs.scan.port_break.Goals as goal

pub holds-requires-clause-placed : goal.holds-requires-clause-placed
holds-requires-clause-placed g c =
    placed_at c.args.plant.now c.args.bundles.now c.args.ways.now c.args.device.0 _ _ _ _ _ c.requires.plan c.row_of.ensures c.loop-index-test.true

pub returns-then-not-holds : goal.returns-then-not-holds
returns-then-not-holds g c =
    let Holds = g.R.EntryRule.Holds c.args.plant.now c.args.bundles.now in
    subst (λ (at : Place). IsLeastOf (IsAt c.args.device.0 c.args.port.0) (AtFrame Holds) at) (sym c.new.ensures)
    (port_breaks c.args.plant.now c.args.bundles.now c.args.ways.now c.args.device c.args.port.0 _ _ _ _
    (g.R.EntryRule.Holds c.args.plant.now c.args.bundles.now)
    (g.met.R.EntryRule.absent c.args.plant.now c.args.bundles.now c.args.device.0 c.args.port.0) c.requires.plan.plan
    c.row_of.ensures c.loop-index-test.true c.loop-index.invariant (iff_false c.holds.ensures c.if-not-holds.true))

pub loop-index-preserved : goal.loop-index-preserved
loop-index-preserved g c =
    port_more (g.R.EntryRule.Holds c.args.plant.now c.args.bundles.now c.args.device.0 c.args.port.0) _ _ _ c.loop-index.invariant
    c.loop-index-test.true (c.holds.ensures.0 c.if-not-holds.false)

pub returns : goal.returns
returns g c =
    port_holds c.args.plant.now c.args.bundles.now c.args.ways.now c.args.device.0 c.args.port.0 _ _ _
    (g.R.EntryRule.Holds c.args.plant.now c.args.bundles.now)
    (g.met.R.EntryRule.absent c.args.plant.now c.args.bundles.now c.args.device.0 c.args.port.0) c.row_of.ensures
    c.loop-index-test.false c.loop-index.invariant
