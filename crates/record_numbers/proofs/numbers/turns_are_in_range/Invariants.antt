use Rattle.std.proofs.Common.{take}
use Rattle.std.specs.List.{AllByRecursion}
use Rattle.record_laws.specs.Fitting.{IsTurn}
use Rattle.record_numbers.proofs.numbers.turns_are_in_range.Given as goal

abbrev pub invariant-loop-turn : goal.invariant-loop-turn
invariant-loop-turn l = AllByRecursion IsTurn (take l.turn-index l.turns)
