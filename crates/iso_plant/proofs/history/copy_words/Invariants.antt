use Rattle.std.proofs.Common.{◌≡◌, ◌++◌, take, drop}
use Rattle.iso_plant.proofs.history.copy_words.Given as goal

abbrev pub invariant-loop-index : goal.invariant-loop-index
invariant-loop-index l = l.out ≡ take l.index l.words ++ drop l.index l.fn.out
