use Rattle.std.proofs.Common.{Some, sym, ◌∙◌, ap, arith}
use Rattle.std.proofs.lemmas.Option.{slice_get-get_or}
use Rattle.plan_schedule.specs.Greatest.{IsDeviceBegin}
use Rattle.plan_schedule.proofs.GreatestLemmas.{greatest_next}
use Rattle.plan_schedule.proofs.RedLemmas.{plan_begins, device_begins}
use Rattle.plan_schedule.proofs.red.red_end.Goals as goal

pub loop-bundle-preserved : goal.loop-bundle-preserved
loop-bundle-preserved c =
    greatest_next (IsDeviceBegin c.args.bundles.now) c.loop-bundle.bundle-index c.loop-bundle.end c.block_end.result c.loop-bundle.invariant
    (device_begins c.args.bundles.now c.loop-bundle.bundle-index c.block_end.result c.bundle-item.result
    (slice_get-get_or c.args.bundles.now c.loop-bundle.bundle-index c.bundle-item.result c.loop-bundle-test.true ∙ ap Some (sym c.bundle-item.is)) c.block_end.ensures) _ c.max-end.ensures

pub returns : goal.returns
returns c = plan_begins c.args.bundles.now c.loop-bundle.bundle-index c.loop-bundle.end c.requires (omega arith) c.loop-bundle.invariant
