use Rattle.std.proofs.Common.{◌+◌, ◌∙◌, ap, take, sym, subst, arith}
use Rattle.plant_stations.specs.Whole.{AreSenders, sender_of}
use Rattle.irt_base.specs.declared.blocks.Bundle.{Bundle}
use Rattle.plant_stations.proofs.Begun.{sender_made}
use Rattle.plant_stations.proofs.making.senders.Goals as goal

pub loop-index-preserved : goal.loop-index-preserved
loop-index-preserved c =
    subst (AreSenders c.args.plant.now (take (c.loop-index.index + 1) c.args.bundles.now)) (sym c.in_ok-push.ensures.items)
    (sender_made c.args.plant.now c.args.bundles.now c.loop-index.senders.items c.loop-index.index c.index-bundles-index.result c.in_ok-new.field-0
    (omega arith) c.loop-index.invariant
    (c.in_ok-new.ensures ∙ ap (λ (b : Bundle). sender_of c.args.plant.now b c.loop-index.index) c.index-bundles-index.is))
