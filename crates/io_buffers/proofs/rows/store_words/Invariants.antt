-- The words so far are stored.
use Rattle.std.proofs.Common.{◌≡◌, [], take}
use Rattle.io_buffers.specs.Steps.{steps_in, with_stores}
use Rattle.io_buffers.specs.declared.views.View.TheVariants.{Producer}
use Rattle.io_buffers.proofs.rows.store_words.Given as goal

abbrev pub invariant-loop-place : goal.invariant-loop-place
invariant-loop-place l = record {
  own : l.seat.table_id ≡ l.initial.seat.table_id;
  stored : l.seat.me ≡ (Producer (with_stores 0 (take l.place l.words) (steps_in l.initial.seat.me.0)), []);
}
