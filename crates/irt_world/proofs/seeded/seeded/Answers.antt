use Rattle.std.proofs.Common.{refl, ap, ◌∙◌}
use Rattle.irt_world.specs.Forwardings.{forwardings}
use Rattle.irt_world.specs.Seeded.{seeded_row}
use Rattle.irt_world.proofs.Made.{made_more}
use Rattle.irt_world.proofs.SeededFits.{rows_fit}
use Rattle.irt_world.proofs.seeded.seeded.Goals as goal

pub loop-cycle-preserved : goal.loop-cycle-preserved
loop-cycle-preserved c =
    made_more (seeded_row c.args.seed c.args.plant.now (forwardings c.args.plant.now c.args.bundles.now)) c.loop-cycle.cycle c.loop-cycle.rows _
    c.in_ok-seeded_row.field-0 _ c.in_ok-push.ensures.ok refl c.loop-cycle.invariant
    (c.in_ok-seeded_row.ensures ∙ ap (λ fs. seeded_row c.args.seed c.args.plant.now fs c.loop-cycle.cycle) c.in_ok-forwardings.ensures)

pub returns-clause-fits : goal.returns-clause-fits
returns-clause-fits c = rw c.loop-cycle.invariant (rows_fit c.args.seed c.args.plant.now c.args.bundles.now c.loop-cycle.cycle c.requires.plan)
