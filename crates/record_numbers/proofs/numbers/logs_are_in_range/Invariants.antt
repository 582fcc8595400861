use Rattle.std.proofs.Common.{take}
use Rattle.std.specs.List.{AllByRecursion}
use Rattle.record_numbers.specs.Numbers.{HasLogNumbers}
use Rattle.record_numbers.proofs.numbers.logs_are_in_range.Given as goal

abbrev pub invariant-loop-log : goal.invariant-loop-log
invariant-loop-log l = AllByRecursion HasLogNumbers (take l.log-index l.logs)
