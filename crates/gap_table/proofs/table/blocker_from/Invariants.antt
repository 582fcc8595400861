use Rattle.std.specs.List.{AllWithin}
use Rattle.gap_table.specs.Slots.{IsClear}
use Rattle.gap_table.proofs.table.blocker_from.Given as goal

abbrev pub invariant-loop-at : goal.invariant-loop-at
invariant-loop-at l = AllWithin (IsClear l.guard l.candidate) l.slots 0 l.at
