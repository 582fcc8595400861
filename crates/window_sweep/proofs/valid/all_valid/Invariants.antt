use Rattle.std.proofs.Common.{◌<◌, ℕ, get_or}
use Rattle.window_sweep.specs.Slots.{IsSendSlot}
use Rattle.window_sweep.specs.declared.slot.SendSlot.{SendSlot}
use Rattle.window_sweep.proofs.valid.all_valid.Given as goal

abbrev pub invariant-loop-slot : goal.invariant-loop-slot
invariant-loop-slot l = (k : ℕ) (d : SendSlot) → k < l.slot-index → IsSendSlot (get_or l.slots k d)
