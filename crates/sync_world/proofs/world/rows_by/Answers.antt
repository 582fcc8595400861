use Rattle.std.proofs.Common.{refl}
use Rattle.irt_world.specs.Seeded.{seeded_delays}
use Rattle.sync_world.specs.World.{row_by}
use Rattle.sync_world.proofs.Made.{made_more}
use Rattle.sync_world.proofs.world.rows_by.Goals as goal

pub loop-cycle-preserved : goal.loop-cycle-preserved
loop-cycle-preserved c =
    made_more (λ cycle. row_by c.args.window (seeded_delays c.args.seed cycle c.args.forwardings.now) c.args.errors.now cycle)
    c.loop-cycle.cycle c.loop-cycle.rows _ c.in_ok-ptcp_row.field-0 _ c.in_ok-push.ensures.ok refl c.loop-cycle.invariant
    c.in_ok-ptcp_row.ensures
