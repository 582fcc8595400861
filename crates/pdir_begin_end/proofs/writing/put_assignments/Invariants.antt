use Rattle.std.proofs.Common.{◌≡◌, ◌++◌, take}
use Rattle.std.specs.List.{flat_map}
use Rattle.pdir_begin_end.specs.Periods.{assignment_bytes}
use Rattle.pdir_begin_end.proofs.writing.put_assignments.Given as goal

-- what came so far is written
abbrev pub invariant-loop-item : goal.invariant-loop-item
invariant-loop-item l = l.out.items ≡ l.fn.out.items ++ flat_map assignment_bytes (take l.item-index l.assignments)
