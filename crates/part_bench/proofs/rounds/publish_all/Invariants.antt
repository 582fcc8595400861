use Rattle.std.proofs.Common.{◌-◌, length}
use Rattle.io_buffers.specs.Passes.{published_by, IsProducerOf}
use Rattle.part_bench.proofs.rounds.publish_all.Given as goal

abbrev pub invariant-rounds : goal.invariant-rounds
invariant-rounds l = IsProducerOf l.shared l.pass

abbrev pub decreases-rounds : goal.decreases-rounds
decreases-rounds l = l.rounds - length (published_by l.pass)
