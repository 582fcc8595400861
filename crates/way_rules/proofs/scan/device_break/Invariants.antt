use Rattle.way_rules.specs.Scan.{AtFrame}
use Rattle.way_rules.proofs.Scans.{HoldsBelow}
use Rattle.way_rules.proofs.scan.device_break.Given as goal

abbrev pub invariant-loop-port : goal.invariant-loop-port
invariant-loop-port g l = HoldsBelow (AtFrame (g.R.EntryRule.Holds l.plant l.bundles)) l.device.0 l.port
