use Rattle.std.proofs.Common.{◌-◌, length}
use Rattle.io_buffers.specs.Passes.{published_by, IsProducerOf, IsConsumerOf}
use Rattle.part_bench.proofs.rounds.on_one_thread.Given as goal

abbrev pub invariant-rounds : goal.invariant-rounds
invariant-rounds l = record {
  producer : IsProducerOf l.shared l.producer;
  consumer : IsConsumerOf l.shared l.consumer;
}

abbrev pub decreases-rounds : goal.decreases-rounds
decreases-rounds l = l.rounds - length (published_by l.producer)
