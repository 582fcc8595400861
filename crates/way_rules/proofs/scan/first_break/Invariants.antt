use Rattle.way_rules.specs.Scan.{AtFrame}
use Rattle.way_rules.proofs.Scans.{HoldsBefore}
use Rattle.way_rules.proofs.scan.first_break.Given as goal

abbrev pub invariant-loop-device : goal.invariant-loop-device
invariant-loop-device g l = HoldsBefore (AtFrame (g.R.EntryRule.Holds l.plant l.bundles)) l.device
