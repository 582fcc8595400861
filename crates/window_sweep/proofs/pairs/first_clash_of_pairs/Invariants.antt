use Rattle.std.proofs.Common.{◌<◌, ℕ, get_or, length}
use Rattle.window_sweep.specs.Clashes.{Clash}
use Rattle.window_sweep.specs.declared.slot.SendSlot.{SendSlot}
use Rattle.window_sweep.proofs.pairs.first_clash_of_pairs.Given as goal

abbrev pub invariant-loop-place : goal.invariant-loop-place
invariant-loop-place l = (i j : ℕ) (d : SendSlot) → i < l.place → i < j → j < length l.slots → ¬ Clash l.window (get_or l.slots i d) (get_or l.slots j d)
