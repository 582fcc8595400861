use Rattle.std.proofs.Common.{◌-◌}
use Rattle.irt_window.proofs.Finding.{IsSearched}
use Rattle.irt_window.proofs.search.entry_index.Given as goal

abbrev pub invariant-loop-low : goal.invariant-loop-low
invariant-loop-low l = IsSearched l.entries l.frame.0 l.low l.high

abbrev pub decreases-loop-low : goal.decreases-loop-low
decreases-loop-low l = l.high - l.low
