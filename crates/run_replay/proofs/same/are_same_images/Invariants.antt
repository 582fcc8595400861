use Rattle.std.proofs.Common.{◌≡◌, length, take}
use Rattle.run_replay.proofs.same.are_same_images.Given as goal

abbrev pub invariant-loop-index : goal.invariant-loop-index
invariant-loop-index l = record {
  count : length l.images ≡ length l.others;
  same : take l.index l.images ≡ take l.index l.others;
}
