use Rattle.std.proofs.Common.{◌<◌, ℕ, get_or}
use Rattle.window_sweep.specs.declared.slot.SendSlot.{SendSlot}
use Rattle.window_sweep.proofs.valid.ascend.Given as goal

abbrev pub invariant-loop-place : goal.invariant-loop-place
invariant-loop-place l = (i j : ℕ) (d : SendSlot) → i < j → j < l.place → (get_or l.slots i d).frame.0 < (get_or l.slots j d).frame.0
