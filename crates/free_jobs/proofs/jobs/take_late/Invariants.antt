use Rattle.std.proofs.Common.{◌≡◌, ◌++◌, List}
use Rattle.std.specs.Prelude.{vec_len}
use Rattle.io_buffers.specs.Given.{Given}
use Rattle.io_buffers.specs.Passes.{taken_by, IsSameConsumer}
use Rattle.free_jobs.proofs.jobs.take_late.Given as goal

abbrev pub invariant-loop : goal.invariant-loop
invariant-loop g l = record {
  own : IsSameConsumer l.initial.pass l.pass;
  wide : vec_len l.out ≡ vec_len l.initial.out;
  more : (between : List Given) × (taken_by l.pass ≡ taken_by l.initial.pass ++ between);
}
