use Rattle.std.proofs.Common.{take}
use Rattle.std.specs.List.{AllByRecursion}
use Rattle.record_laws.specs.Fitting.{HasRange}
use Rattle.record_numbers.proofs.numbers.rows_are_in_range.Given as goal

abbrev pub invariant-loop-row : goal.invariant-loop-row
invariant-loop-row l = AllByRecursion HasRange (take l.row-index l.rows)
