-- The takes that are left never fall from the last one tested where all never fall from 0.
use Rattle.std.proofs.Common.{◌↔◌, drop, map}
use Rattle.iso_rules.specs.Legal.{NeverFall}
use Rattle.log_numbers.proofs.risen.never_fall.Given as goal

abbrev pub invariant-loop-item : goal.invariant-loop-item
invariant-loop-item g l =
    NeverFall l.before (map g.T.HasTaken.taken_of (drop l.item-index l.items))
    ↔ NeverFall 0 (map g.T.HasTaken.taken_of l.items)
