use Rattle.irt_window.specs.Marks.{AreMarks}
use Rattle.irt_window.proofs.marking.mark_all.Given as goal

abbrev pub invariant-loop : goal.invariant-loop
invariant-loop l = AreMarks l.net l.marks

abbrev pub decreases-loop : goal.decreases-loop
decreases-loop l = l.marks.left
