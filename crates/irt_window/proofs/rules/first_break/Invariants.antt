use Rattle.std.proofs.Common.{ℕ, ◌<◌}
use Rattle.plan_rules.specs.Tree.{IsInTree}
use Rattle.irt_window.specs.Plans.{setup_in}
use Rattle.irt_window.proofs.rules.first_break.Given as goal

abbrev pub invariant-loop-device : goal.invariant-loop-device
invariant-loop-device l = (device frame : ℕ) → device < l.device → IsInTree (setup_in l.net) device frame
