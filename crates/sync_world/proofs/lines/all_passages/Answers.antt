use Rattle.std.proofs.Common.{refl}
use Rattle.sync_world.specs.Lines.{line_passages}
use Rattle.sync_world.proofs.Made.{made_more}
use Rattle.sync_world.proofs.lines.all_passages.Goals as goal

pub loop-device-preserved : goal.loop-device-preserved
loop-device-preserved c =
    made_more (line_passages c.args.domain.now c.syncs_in-syncs.result) c.loop-device.device c.loop-device.made _ c.in_ok-line_passages.field-0 _
    c.in_ok-push.ensures.ok refl c.loop-device.invariant c.in_ok-line_passages.ensures
