use Rattle.std.proofs.Common.{◌≡◌, ◌≤◌, ◌-◌, length}
use Rattle.irt_block.specs.Reading.{repeat_at}
use Rattle.irt_block.proofs.Loops.{with_front}
use Rattle.pdir_begin_end.specs.Periods.{phase_at}
use Rattle.pdir_begin_end.proofs.port.phases.Given as goal

-- what is still read goes on as all of it does
abbrev pub invariant-loop : goal.invariant-loop
invariant-loop l = record {
  read : with_front l.items (repeat_at (phase_at l.most) (l.count - l.counter) l.extent l.left) ≡ repeat_at (phase_at l.most) l.count l.extent l.fn.rest;
  shorter : length l.left ≤ length l.fn.rest;
}
