use Rattle.placement.specs.Tables.{Adds}
use Rattle.placement.specs.Records.{IsDueSlot}
use Rattle.placement.proofs.record.add_sending.Given as goal

abbrev pub invariant-loop-k : goal.invariant-loop-k
invariant-loop-k l = Adds (IsDueSlot l.rate l.sending l.slot l.k) l.initial.gaps l.gaps
