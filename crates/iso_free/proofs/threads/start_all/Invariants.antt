use Rattle.std.proofs.Common.{◌≡◌, ◌≤◌, ◌+◌, ◌++◌, map}
use Rattle.std.specs.Prelude.{vec_len, vec_capacity}
use Rattle.std.specs.Vec.Iter.{into_iter_items, into_iter_len}
use Rattle.iso_free.specs.Started.{place_of}
use Rattle.iso_free.proofs.threads.start_all.Given as goal

abbrev pub invariant-loop-job : goal.invariant-loop-job
invariant-loop-job g l = record {
  places : map place_of l.started.items ++ map (λ j. j.number) (into_iter_items l.job-iterator) ≡ map (λ j. j.number) l.fn.jobs.items;
  room : vec_len l.started + into_iter_len l.job-iterator ≤ vec_capacity l.started;
}
