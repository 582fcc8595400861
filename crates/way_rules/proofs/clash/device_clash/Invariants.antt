use Rattle.plan_rules.specs.Frames.{KeepsApart}
use Rattle.way_rules.proofs.Scans.{HoldsBelow}
use Rattle.way_rules.proofs.clash.device_clash.Given as goal

abbrev pub invariant-loop-port : goal.invariant-loop-port
invariant-loop-port l = HoldsBelow (KeepsApart l.plant l.bundles) l.device.0 l.port
