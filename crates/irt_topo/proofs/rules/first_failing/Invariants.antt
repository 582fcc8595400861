use Rattle.std.proofs.Common.{◌≡◌, drop}
use Rattle.irt_topo.specs.Rules.{first_failing}
use Rattle.irt_topo.proofs.rules.first_failing.Given as goal

abbrev pub invariant-loop-rule : goal.invariant-loop-rule
invariant-loop-rule l = first_failing (drop l.rule-index l.rules) l.plant ≡ first_failing l.rules l.plant
