use Rattle.std.proofs.Common.{◌<◌, ℕ}
use Rattle.plan_check.specs.Late.{IsLate}
use Rattle.plan_check.proofs.clocks.first_late.Given as goal

abbrev pub invariant-loop-device : goal.invariant-loop-device
invariant-loop-device l = (n : ℕ) → n < l.device → ¬ IsLate l.plant l.bundles l.tree n
