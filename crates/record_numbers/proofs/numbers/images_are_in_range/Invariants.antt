use Rattle.std.proofs.Common.{take}
use Rattle.std.specs.List.{AllByRecursion}
use Rattle.record_laws.specs.Fitting.{AreWords}
use Rattle.record_numbers.proofs.numbers.images_are_in_range.Given as goal

abbrev pub invariant-loop-image : goal.invariant-loop-image
invariant-loop-image l = AllByRecursion AreWords (take l.image-index l.images)
