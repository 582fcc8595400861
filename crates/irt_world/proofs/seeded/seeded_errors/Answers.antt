use Rattle.std.proofs.Common.{rules}
use Rattle.std.proofs.lemmas.Int.{to_z-of_z}
use Rattle.std.specs.Int.{w64}
use Rattle.irt_world.specs.Seeded.{seeded_error}
use Rattle.irt_world.proofs.Made.{made_more}
use Rattle.irt_world.proofs.seeded.seeded_errors.Goals as goal

pub loop-device-preserved : goal.loop-device-preserved
loop-device-preserved c =
    made_more (seeded_error c.args.seed c.args.window c.args.cycle) c.loop-device.device c.loop-device.errors _ c.seeded_error.result _
    c.in_ok-push.ensures.ok (to_z-of_z w64 c.seeded_error.result (search rules)) c.loop-device.invariant c.seeded_error.ensures
