use Rattle.std.proofs.Common.{◌≡◌, ◌++◌, length}
use Rattle.std.specs.Vec.Iter.{into_iter_items}
use Rattle.iso_free.specs.Record.{logs_of}
use Rattle.iso_free.proofs.ending.records.Given as goal

abbrev pub invariant-loop-history : goal.invariant-loop-history
invariant-loop-history l = record {
  logs : l.all ++ logs_of (into_iter_items l.history-iterator) (into_iter_items l.turns) ≡ logs_of l.fn.histories l.fn.turns;
  count : length (into_iter_items l.history-iterator) ≡ length (into_iter_items l.turns);
}
