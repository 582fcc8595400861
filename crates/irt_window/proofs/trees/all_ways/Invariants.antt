use Rattle.std.proofs.Common.{take}
use Rattle.irt_window.specs.Trees.{AreRowsOf}
use Rattle.irt_window.proofs.trees.all_ways.Given as goal

abbrev pub invariant-loop-row : goal.invariant-loop-row
invariant-loop-row l = AreRowsOf (take l.row-index l.rows) l.ways
