use Rattle.io_buffers.specs.Passes.{IsConsumerOf}
use Rattle.part_bench.proofs.rounds.take_all.Given as goal

abbrev pub invariant-rounds : goal.invariant-rounds
invariant-rounds l = IsConsumerOf l.shared l.pass
