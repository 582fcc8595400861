use Rattle.std.proofs.Common.{◌≡◌, Some, map, take}
use Rattle.plan_rules.specs.declared.way.Way.{Way}
use Rattle.irt_window.proofs.trees.row_ways.Given as goal

abbrev pub invariant-loop-way : goal.invariant-loop-way
invariant-loop-way l = map (λ (way : Way). Some way) l.ways ≡ take l.way-index l.row
