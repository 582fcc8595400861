use Rattle.std.proofs.lemmas.Result.{err_from_is_err_and}
use Rattle.world_file.specs.Reading.{with_delay}
use Rattle.world_file.proofs.Loops.{each_stops, form_passed}
use Rattle.world_file.proofs.line.read_delays.Goals as goal

pub returns-in_err-number : goal.returns-in_err-number
returns-in_err-number c =
    let p = err_from_is_err_and c.from_residual.result c.from_residual.ensures.1 in
    form_passed _ _ p.0 _ p.1 p.2
    (each_stops with_delay c.args.forwardings.now c.loop-forwarding.forwarding-index c.loop-forwarding.draft c.loop-forwarding.rest.now _ c.loop-forwarding-test.true c.in_err-number.ensures c.loop-forwarding.invariant)
