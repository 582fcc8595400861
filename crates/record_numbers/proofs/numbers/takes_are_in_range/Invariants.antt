use Rattle.std.proofs.Common.{take}
use Rattle.std.specs.List.{AllByRecursion}
use Rattle.record_laws.specs.Fitting.{IsTake}
use Rattle.record_numbers.proofs.numbers.takes_are_in_range.Given as goal

abbrev pub invariant-loop-take : goal.invariant-loop-take
invariant-loop-take l = AllByRecursion IsTake (take l.take-index l.takes)
