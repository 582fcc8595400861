use Rattle.std.proofs.lemmas.List.Elements.{recursion_from_All}
use Rattle.std.proofs.Common.{arith}
use Rattle.irt_base.specs.Valid.{IsAssignment}
use Rattle.block_values.proofs.periods.are_assignments.Goals as goal

pub returns : goal.returns
returns c = recursion_from_All IsAssignment c.args.assignments.now (λ k d below. c.loop-assignment.invariant k d (omega arith))
