use Rattle.sync_world.proofs.Reports.{line_count}
use Rattle.sync_world.proofs.report.sync_report.Goals as goal

pub lines_of-requires-clause-count : goal.lines_of-requires-clause-count
lines_of-requires-clause-count c =
    line_count c.args.seed c.args.plant.now c.args.tree.now c.args.plant.now.sync.send c.in_ok-domain.domain c.in_ok-domain.ensures.value
