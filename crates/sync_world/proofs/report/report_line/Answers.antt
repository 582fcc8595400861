use Rattle.std.proofs.Common.{◌∙◌, ap}
use Rattle.sync_world.specs.Report.{muted_in, worst_in}
use Rattle.sync_world.proofs.Reports.{few_errors, line_is}
use Rattle.sync_world.proofs.Tables.{known_is_measured, table_is}
use Rattle.sync_world.proofs.report.report_line.Goals as goal

pub heard_errors-requires-clause-table : goal.heard_errors-requires-clause-table
heard_errors-requires-clause-table c = table_is c.args.domain.now c.args.cycles c.args.table.now c.requires.valid c.requires.table

pub muted_in-requires : goal.muted_in-requires
muted_in-requires c =
    few_errors c.args.domain.now _ c.args.device.0 c.args.cycles c.as_slice.result.now (c.as_slice.ensures ∙ c.in_ok-errors.ensures) c.requires.cycles

pub returns : goal.returns
returns c =
    line_is c.args.plant.now c.args.tree.now c.args.domain.now c.args.cycles c.args.device c.in_ok-errors.errors c.hops.result c.delay.result
    c.known_in.result c.budget.result c.muted_in.result c.worst_in.result c.in_ok-errors.ensures c.hops.ensures c.delay.ensures
    (c.known_in.ensures ∙ known_is_measured c.args.domain.now c.args.cycles c.args.table.now c.args.device.0 c.requires.table c.requires.there)
    c.budget.ensures (c.muted_in.ensures ∙ ap muted_in c.as_slice.ensures) (c.worst_in.ensures ∙ ap worst_in c.as_slice-2.ensures)
