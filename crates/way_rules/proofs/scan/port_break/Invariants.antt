use Rattle.way_rules.proofs.Entries.{HoldsUpTo}
use Rattle.way_rules.proofs.scan.port_break.Given as goal

abbrev pub invariant-loop-index : goal.invariant-loop-index
invariant-loop-index g l = HoldsUpTo (g.R.EntryRule.Holds l.plant l.bundles l.device.0 l.port.0) l.entries l.index
