use Rattle.std.proofs.Common.{◌≡◌, length}
use Rattle.io_buffers.specs.Passes.{published_by, IsProducerOf}
use Rattle.part_cases.proofs.exchanges.publish_all.Given as goal

abbrev pub invariant-loop-number : goal.invariant-loop-number
invariant-loop-number l = record {
  own : IsProducerOf l.shared l.pass;
  count : length (published_by l.pass) ≡ l.number;
}
