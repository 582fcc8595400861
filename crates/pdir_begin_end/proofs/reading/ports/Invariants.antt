use Rattle.std.proofs.Common.{◌≡◌, ◌≤◌, ◌-◌, length}
use Rattle.irt_block.specs.Reading.{repeat_at}
use Rattle.irt_block.proofs.Loops.{with_front}
use Rattle.pdir_begin_end.specs.Periods.{port_at}
use Rattle.pdir_begin_end.proofs.reading.ports.Given as goal

-- what is still read goes on as all of it does
abbrev pub invariant-loop : goal.invariant-loop
invariant-loop l = record {
  read : with_front l.items (repeat_at port_at (l.count - l.counter) l.extent l.left) ≡ repeat_at port_at l.count l.extent l.fn.rest;
  shorter : length l.left ≤ length l.fn.rest;
}
