use Rattle.std.proofs.Common.{◌≡◌, slice_get, Some, refl}
use Rattle.std.proofs.lemmas.Result.{err_from_is_err_and}
use Rattle.irt_top.proofs.PlanSteps.{found_item, file_on, file_stops}
use Rattle.irt_top.proofs.plan.+store_bundles.Goals as goal

pub returns-in_err-store_bundle-clause-step : goal.returns-in_err-store_bundle-clause-step
returns-in_err-store_bundle-clause-step g t c =
    let d = c.in-Some.device.now in
    let b = c.in-Some-get.bundle.now in
    let is : slice_get c.args.devices.now c.args.at ≡ Some d = found_item c.args.devices.now c.args.at d d c.in-Some.ensures.lookup.3.0 c.in-Some.ensures.lookup.1 in
    let so : slice_get c.args.bundles.now c.args.at ≡ Some b = found_item c.args.bundles.now c.args.at b b c.in-Some-get.ensures.lookup.3.0 c.in-Some-get.ensures.lookup.1 in
    let p = err_from_is_err_and c.from_residual.result c.from_residual.ensures.1 in
    rw (p.1, p.2) (file_stops c.args.devices.now c.args.bundles.now c.args.at d b _ _ _ is so c.in_err-store_bundle.ensures.step)

pub returns-clause-step : goal.returns-clause-step
returns-clause-step g t c =
    let d = c.in-Some.device.now in
    let b = c.in-Some-get.bundle.now in
    let is : slice_get c.args.devices.now c.args.at ≡ Some d = found_item c.args.devices.now c.args.at d d c.in-Some.ensures.lookup.3.0 c.in-Some.ensures.lookup.1 in
    let so : slice_get c.args.bundles.now c.args.at ≡ Some b = found_item c.args.bundles.now c.args.at b b c.in-Some-get.ensures.lookup.3.0 c.in-Some-get.ensures.lookup.1 in
    file_on c.args.devices.now c.args.bundles.now c.args.at _ d b _ _ _ c.store_bundles.result c.in_ok-store_bundle.field-0 is so refl c.in_ok-store_bundle.ensures.step c.store_bundles.ensures.step
