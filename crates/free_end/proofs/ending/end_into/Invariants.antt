use Rattle.std.proofs.Common.{◌≡◌, ◌<◌, ◌≤◌, ◌+◌, ℕ, length, []}
use Rattle.std.specs.Prelude.{slice_index_or, vec_capacity, vec_len}
use Rattle.std.specs.Vec.Iter.{into_iter_items, into_iter_len}
use Rattle.free_end.specs.Closed.{AreParts}
use Rattle.free_end.specs.Ended.{HasLegalLog}
use Rattle.free_end.proofs.ending.end_into.Given as goal

abbrev pub invariant-loop-wire : goal.invariant-loop-wire
invariant-loop-wire g l = record {
  parts : AreParts g.N.Naming.start l.plant (length l.all.items) (into_iter_items l.wire-iterator) (into_iter_items l.ports) (into_iter_items l.jobs);
  count : length l.all.items + length (into_iter_items l.wire-iterator) ≡ length l.fn.wires.items;
  room : vec_len l.all + into_iter_len l.wire-iterator ≤ vec_capacity l.all;
  each : (app : ℕ) → app < length l.all.items → HasLegalLog g.A.IsoApp.reply g.A.IsoApp.next_state g.N.Firsts.firsts l.plant app (slice_index_or l.all.items app []);
}
