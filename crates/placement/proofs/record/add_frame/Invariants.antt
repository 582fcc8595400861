use Rattle.placement.specs.Tables.{Adds}
use Rattle.placement.proofs.Records.{IsSlotBefore}
use Rattle.placement.proofs.record.add_frame.Given as goal

abbrev pub invariant-loop-sending : goal.invariant-loop-sending
invariant-loop-sending l = Adds (IsSlotBefore l.rate l.layout l.offsets l.sending-index) l.initial.gaps l.gaps
