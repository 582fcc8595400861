use Rattle.std.proofs.Common.{◌≡◌, ◌≤◌, length, drop}
use Rattle.std.specs.Vec.Iter.{into_iter_items, into_iter_len}
use Rattle.iso_free.specs.Begun.{AreBegun}
use Rattle.iso_free.proofs.parts.part_all.Given as goal

abbrev pub invariant-loop-opened : goal.invariant-loop-opened
invariant-loop-opened g l = record {
  begun : AreBegun g.N.Naming.start (length l.all.wires.items) l.all.wires.items l.all.ports.items l.all.buffers.items l.all.jobs.items;
  count : length l.all.wires.items ≤ length l.fn.openings.items;
  left : into_iter_len l.opened-iterator ≡ length (into_iter_items l.opened-iterator);
  rest : into_iter_items l.opened-iterator ≡ drop (length l.all.wires.items) l.fn.openings.items;
}
