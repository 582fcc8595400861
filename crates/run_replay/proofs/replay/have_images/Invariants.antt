use Rattle.std.proofs.Common.{◌≡◌, ◌<◌, ◌≤◌, ℕ, List, drop, length, slice_get, Some}
use Rattle.std.specs.Vec.Iter.{into_iter_items, into_iter_len}
use Rattle.run_replay.proofs.Matching.{HaveImagesBelow}
use Rattle.run_replay.proofs.replay.have_images.Given as goal

abbrev pub invariant-loop-history : goal.invariant-loop-history
invariant-loop-history l = record {
  within : l.app ≤ length l.fn.histories;
  left : into_iter_len l.history-iterator ≡ length (into_iter_items l.history-iterator);
  rest : into_iter_items l.history-iterator ≡ drop l.app l.fn.histories;
  same : HaveImagesBelow l.app l.fn.histories l.logs;
}
