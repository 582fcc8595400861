use Rattle.std.proofs.Common.{◌<◌, ℕ, get_or}
use Rattle.window_sweep.specs.Clashes.{Clash}
use Rattle.window_sweep.specs.declared.slot.SendSlot.{SendSlot}
use Rattle.window_sweep.proofs.pairs.clash_after.Given as goal

abbrev pub invariant-loop-other : goal.invariant-loop-other
invariant-loop-other l = (k : ℕ) (d : SendSlot) → l.place < k → k < l.other → ¬ Clash l.window (get_or l.slots l.place d) (get_or l.slots k d)
