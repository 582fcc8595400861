-- The words so far are loaded.
use Rattle.std.proofs.Common.{◌≡◌, [], take}
use Rattle.io_buffers.specs.Steps.{steps_in, with_loads}
use Rattle.io_buffers.specs.declared.views.View.TheVariants.{Consumer}
use Rattle.io_buffers.proofs.rows.load_words.Given as goal

abbrev pub invariant-loop-place : goal.invariant-loop-place
invariant-loop-place l = record {
  own : l.seat.table_id ≡ l.initial.seat.table_id;
  loaded : l.seat.me ≡ (Consumer (with_loads 0 (take l.place l.out) (steps_in l.initial.seat.me.0)), []);
}
