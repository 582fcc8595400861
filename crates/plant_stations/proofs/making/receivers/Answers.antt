use Rattle.std.proofs.Common.{◌+◌, ◌∙◌, ap, get_or, List, take, sym, subst, arith}
use Rattle.iso_station.specs.Consumer.{ConsumerState, new_consumer}
use Rattle.plant_stations.specs.Whole.{AreNewConsumers}
use Rattle.plant_stations.proofs.Begun.{consumer_made}
use Rattle.plant_stations.proofs.making.receivers.Goals as goal

pub loop-index-preserved : goal.loop-index-preserved
loop-index-preserved c =
    subst (λ (xs : List ConsumerState). AreNewConsumers (take (c.loop-index.index + 1) c.args.apps.now) c.args.bundles.now xs) (sym c.in_ok-push.ensures.items)
    (consumer_made c.args.apps.now c.args.bundles.now c.loop-index.receivers.items c.loop-index.index _ c.index-bundles-device.result c.in_ok-new.field-0
    (omega arith) c.loop-index.invariant
    (c.in_ok-new.ensures ∙ ap new_consumer (c.index-bundles-device.is ∙ ap (λ n. get_or c.args.bundles.now n c.index-bundles-device.result) c.from-device.ensures)))
