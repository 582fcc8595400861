use Rattle.irt_window.proofs.NoWays.{AreBegun}
use Rattle.irt_window.proofs.marks.no_marks.Given as goal

abbrev pub invariant-loop-bundle : goal.invariant-loop-bundle
invariant-loop-bundle l = AreBegun l.bundles l.bundle-index l.left l.rows.items
