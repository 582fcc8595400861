use Rattle.std.proofs.Common.{ℕ, ◌<◌}
use Rattle.irt_window.specs.Marks.{AreMarks, IsStep, IsDeviceStuck}
use Rattle.irt_window.specs.declared.marks.Marks.{Marks}
use Rattle.irt_window.proofs.marking.mark_round.Given as goal

abbrev pub invariant-loop-device : goal.invariant-loop-device
invariant-loop-device l = record {
  marks : AreMarks l.net l.marks;
  step : IsStep (λ (m : Marks). (d : ℕ) → d < l.device → IsDeviceStuck l.net d m) l.fn.marks l.marks l.found;
}
