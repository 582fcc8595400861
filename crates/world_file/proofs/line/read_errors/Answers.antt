use Rattle.std.proofs.lemmas.Result.{err_from_is_err_and}
use Rattle.world_file.specs.Reading.{with_error}
use Rattle.world_file.proofs.Loops.{each_stops, form_passed}
use Rattle.world_file.proofs.line.read_errors.Goals as goal

pub returns-in_err-number : goal.returns-in_err-number
returns-in_err-number c =
    let p = err_from_is_err_and c.from_residual.result c.from_residual.ensures.1 in
    form_passed _ _ p.0 _ p.1 p.2
    (each_stops (λ e _ m. with_error e m) c.args.devices.now c.loop.index c.loop.draft c.loop.rest.now _ c.loop-test.true c.in_err-number.ensures c.loop.invariant)
