use Rattle.std.proofs.Common.{ℕ, ◌<◌}
use Rattle.irt_window.specs.Marks.{AreMarks, IsStep, IsStuckAt}
use Rattle.irt_window.specs.declared.marks.Marks.{Marks}
use Rattle.irt_window.proofs.marking.mark_device.Given as goal

abbrev pub invariant-loop-place : goal.invariant-loop-place
invariant-loop-place l = record {
  marks : AreMarks l.net l.marks;
  step : IsStep (λ (m : Marks). (n : ℕ) → n < l.place → IsStuckAt l.net m l.device.0 n) l.fn.marks l.marks l.found;
}
