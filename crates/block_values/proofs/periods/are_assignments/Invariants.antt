use Rattle.std.proofs.Common.{◌<◌, ℕ, get_or}
use Rattle.irt_base.specs.Valid.{IsAssignment}
use Rattle.irt_base.specs.declared.blocks.Assignment.{Assignment}
use Rattle.block_values.proofs.periods.are_assignments.Given as goal

abbrev pub invariant-loop-assignment : goal.invariant-loop-assignment
invariant-loop-assignment l = (k : ℕ) (d : Assignment) → k < l.assignment-index → IsAssignment (get_or l.assignments k d)
