use Rattle.std.proofs.Common.{◌-◌, length}
use Rattle.irt_steps.proofs.PrintLemmas.{IsPrinted}
use Rattle.irt_steps.proofs.print.print_text.Given as goal

abbrev pub invariant-loop-at : goal.invariant-loop-at
invariant-loop-at g l = IsPrinted (g.K.Sink.taken l.fn.sink) (g.K.Sink.taken l.sink) (g.K.Sink.faults l.fn.sink) (g.K.Sink.faults l.sink) l.text l.at

abbrev pub decreases-loop-at : goal.decreases-loop-at
decreases-loop-at g l = length l.text - l.at
