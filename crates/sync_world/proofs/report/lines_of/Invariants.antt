use Rattle.std.proofs.Common.{◌≡◌, map}
use Rattle.std.specs.List.{range_with_len}
use Rattle.sync_world.specs.Report.{report_line}
use Rattle.sync_world.proofs.report.lines_of.Given as goal

abbrev pub invariant-loop-before : goal.invariant-loop-before
invariant-loop-before l = l.lines ≡ map (report_line l.plant l.tree l.domain l.cycles) (range_with_len 1 l.before)
