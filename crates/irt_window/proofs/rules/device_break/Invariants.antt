use Rattle.std.proofs.Common.{ℕ, ◌<◌}
use Rattle.plan_rules.specs.Tree.{IsInTree}
use Rattle.irt_window.specs.Plans.{setup_in}
use Rattle.irt_window.proofs.rules.device_break.Given as goal

abbrev pub invariant-loop-frame : goal.invariant-loop-frame
invariant-loop-frame l = (frame : ℕ) → frame < l.frame → IsInTree (setup_in l.net) l.device.0 frame
