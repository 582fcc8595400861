use Rattle.std.proofs.Common.{ℕ, ◌∙◌, ap, refl}
use Rattle.std.specs.Prelude.{slice_index}
use Rattle.sync_world.specs.Clocks.{heard_errors}
use Rattle.sync_world.proofs.Made.{made_more}
use Rattle.sync_world.proofs.Tables.{table_is}
use Rattle.sync_world.proofs.world.all_errors.Goals as goal

pub heard_errors-requires-clause-table : goal.heard_errors-requires-clause-table
heard_errors-requires-clause-table c = table_is c.args.domain.now c.args.cycles c.args.table.now c.requires.valid c.requires.table

pub loop-device-preserved : goal.loop-device-preserved
loop-device-preserved c =
    made_more (λ device. heard_errors c.args.domain.now (slice_index c.args.timeouts.now device) device c.args.cycles) c.loop-device.device
    c.loop-device.made _ c.in_ok-heard_errors.field-0 _ c.in_ok-push.ensures.ok refl c.loop-device.invariant
    (c.in_ok-heard_errors.ensures
    ∙ ap (λ (n : ℕ). heard_errors c.args.domain.now (slice_index c.args.timeouts.now n) c.loop-device.device c.args.cycles) c.from.ensures)
