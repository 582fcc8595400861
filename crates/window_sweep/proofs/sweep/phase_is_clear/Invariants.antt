use Rattle.std.proofs.Common.{◌≡◌, drop, None, IfSome}
use Rattle.window_sweep.specs.Slots.{IsSendSlot}
use Rattle.window_sweep.specs.Steps.{steps}
use Rattle.window_sweep.proofs.sweep.phase_is_clear.Given as goal

abbrev pub invariant-loop-slot : goal.invariant-loop-slot
invariant-loop-slot l = record {
  valid : IfSome l.last IsSendSlot;
  same : steps l.window l.k l.last (drop l.slot-index l.sorted) ≡ steps l.window l.k None l.sorted;
}
