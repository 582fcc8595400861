use Rattle.plan_rules.specs.Frames.{KeepsApart}
use Rattle.way_rules.proofs.Scans.{HoldsBefore}
use Rattle.way_rules.proofs.clash.clash_break.Given as goal

abbrev pub invariant-loop-device : goal.invariant-loop-device
invariant-loop-device l = HoldsBefore (KeepsApart l.plant l.bundles) l.device
