use Rattle.std.proofs.Common.{refl, arith, ◌+◌}
use Rattle.sync_world.specs.Report.{report_line}
use Rattle.sync_world.proofs.Made.{made_from}
use Rattle.sync_world.proofs.report.lines_of.Goals as goal

pub loop-before-preserved : goal.loop-before-preserved
loop-before-preserved c =
    made_from (report_line c.args.plant.now c.args.tree.now c.args.domain.now c.args.cycles) 1 c.loop-before.before (c.loop-before.before + 1)
    c.loop-before.lines _ c.in_ok-report_line.field-0 _ (omega arith) c.in_ok-push.ensures.ok refl c.loop-before.invariant c.in_ok-report_line.ensures
