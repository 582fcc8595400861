use Rattle.irt_window.proofs.Numbering.{AreFilled}
use Rattle.irt_window.proofs.demands.demand_numbers.Given as goal

abbrev pub invariant-loop-number : goal.invariant-loop-number
invariant-loop-number l = AreFilled l.plant.demands l.number 1792 l.numbers

abbrev pub decreases-loop-number : goal.decreases-loop-number
decreases-loop-number l = l.number
