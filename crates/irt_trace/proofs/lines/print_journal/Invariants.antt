use Rattle.std.proofs.Common.{◌≡◌, take}
use Rattle.std.specs.List.{flat_map}
use Rattle.irt_trace.specs.Journal.{row_line}
use Rattle.irt_trace.proofs.lines.print_journal.Given as goal

abbrev pub invariant-loop-row : goal.invariant-loop-row
invariant-loop-row l = l.out.items ≡ flat_map (row_line l.plant) (take l.row-index l.rows)
