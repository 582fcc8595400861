use Rattle.std.proofs.Common.{◌≡◌, ◌≢◌, ◌∙◌, ap, sym, slice_get, rules}
use Rattle.plant_stations.proofs.Receiving.{passed, answered, cycle_kept}
use Rattle.plant_stations.proofs.receiver.take_one.Goals as goal

pub returns-then-one-device-clause-takes : goal.returns-then-one-device-clause-takes
returns-then-one-device-clause-takes c =
    let apart : c.args.one.device.0 ≢ c.args.device.0 = search rules in
    λ came first takes. passed c.args.device.0 c.args.frames.now came first c.args.one c.args.consumer.now takes
    (λ bytes mine at taken. absurd (apart mine))

pub returns-clause-takes : goal.returns-clause-takes
returns-clause-takes c =
    let mine : c.args.one.device.0 ≡ c.args.device.0 = search rules in
    λ came first takes. answered c.args.device.0 c.args.frames.now came first c.accept.result c.args.one c.args.consumer.now c.accept.new.self
    c.bytes.result.now takes mine (ap (slice_get c.args.frames.now) (sym c.from.ensures) ∙ c.bytes.ensures) c.accept.ensures.taken c.accept.ensures.kept c.accept.ensures.unchanged

pub returns-clause-cycle : goal.returns-clause-cycle
returns-clause-cycle c =
    cycle_kept c.accept.result c.args.consumer.now c.accept.new.self
    c.bytes.result.now c.accept.ensures.taken c.accept.ensures.kept c.accept.ensures.unchanged
