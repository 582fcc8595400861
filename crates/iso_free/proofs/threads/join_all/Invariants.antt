use Rattle.std.proofs.Common.{◌≡◌, ◌≤◌, ◌+◌, ◌++◌, map}
use Rattle.std.specs.Prelude.{vec_len, vec_capacity, All}
use Rattle.std.specs.Vec.Iter.{into_iter_items, into_iter_len}
use Rattle.free_plant.specs.Named.{cycles_of}
use Rattle.iso_free.specs.Started.{place_of}
use Rattle.iso_free.proofs.threads.join_all.Given as goal

abbrev pub invariant-loop-one : goal.invariant-loop-one
invariant-loop-one g l = record {
  numbers : map (λ j. j.number) l.jobs.items ++ map place_of (into_iter_items l.one-iterator) ≡ map place_of l.fn.started.items;
  found : All (λ j. j.found ≡ cycles_of g.N.Naming.start) l.jobs.items;
  room : vec_len l.jobs + into_iter_len l.one-iterator ≤ vec_capacity l.jobs;
}
