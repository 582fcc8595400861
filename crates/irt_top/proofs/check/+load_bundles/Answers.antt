use Rattle.std.proofs.Common.{◌≡◌, length, slice_get, Some}
use Rattle.std.proofs.lemmas.Result.{err_from_is_err_and}
use Rattle.irt_top.proofs.CheckLemmas.{found_device, one_more, one_stops}
use Rattle.irt_top.proofs.check.+load_bundles.Goals as goal

pub returns-in_err-front-clause-step : goal.returns-in_err-front-clause-step
returns-in_err-front-clause-step g t c =
    let at : slice_get c.args.devices.now (length c.args.front) ≡ Some c.in-Some.device.now =
    found_device c.args.devices.now c.len.result (length c.args.front) c.in-Some.device.now c.in-Some.device.now c.in-Some.ensures.lookup.3.0 c.in-Some.ensures.lookup.1 c.len.ensures in
    let p = err_from_is_err_and c.from_residual.result c.from_residual.ensures.1 in
    rw (p.1, p.2) (one_stops c.args.devices.now c.in-Some.device.now c.args.front _ _ _ at c.in_err-front.ensures.step)

pub returns-clause-step : goal.returns-clause-step
returns-clause-step g t c =
    let at : slice_get c.args.devices.now (length c.args.front) ≡ Some c.in-Some.device.now =
    found_device c.args.devices.now c.len.result (length c.args.front) c.in-Some.device.now c.in-Some.device.now c.in-Some.ensures.lookup.3.0 c.in-Some.ensures.lookup.1 c.len.ensures in
    one_more c.args.devices.now c.in-Some.device.now c.args.front c.in_ok-front.front _ _ _ _ at c.in_ok-front.ensures.count c.in_ok-front.ensures.step c.load_bundles.ensures.step
