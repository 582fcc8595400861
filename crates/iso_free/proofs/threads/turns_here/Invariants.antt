use Rattle.std.proofs.Common.{◌≡◌, map, length}
use Rattle.iso_free.specs.Started.{place_of}
use Rattle.iso_free.proofs.threads.turns_here.Given as goal

abbrev pub invariant-loop-at : goal.invariant-loop-at
invariant-loop-at g l = record {
  places : map place_of l.started.items ≡ map place_of l.initial.started.items;
  count : length l.started.items ≡ length l.initial.started.items;
}
