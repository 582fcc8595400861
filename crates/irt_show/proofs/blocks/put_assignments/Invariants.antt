use Rattle.std.proofs.Common.{◌≡◌, ◌++◌, drop}
use Rattle.irt_show.specs.Show.{numbered, period_line}
use Rattle.irt_show.proofs.blocks.put_assignments.Given as goal

-- what is printed and what is still to come are the whole text
abbrev pub invariant-loop-assignment : goal.invariant-loop-assignment
invariant-loop-assignment l = (l.number ≡ l.assignment-index) × (l.out.items ++ numbered (period_line l.port) l.number (drop l.assignment-index l.assignments) ≡ l.initial.out.items ++ numbered (period_line l.port) 0 l.assignments)
