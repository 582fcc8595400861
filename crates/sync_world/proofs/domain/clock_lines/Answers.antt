use Rattle.std.proofs.Common.{refl}
use Rattle.sync_world.specs.Domain.{clock_line}
use Rattle.sync_world.proofs.Made.{made_more}
use Rattle.sync_world.proofs.domain.clock_lines.Goals as goal

pub loop-device-preserved : goal.loop-device-preserved
loop-device-preserved c =
    made_more (clock_line c.args.plant.now c.args.tree.now) c.loop-device.device c.loop-device.lines _ c.in_ok-clock_line.field-0 _
    c.in_ok-push.ensures.ok refl c.loop-device.invariant c.in_ok-clock_line.ensures
