use Rattle.std.proofs.Common.{◌≡◌, map}
use Rattle.iso_free.specs.Started.{place_of}
use Rattle.iso_free.proofs.threads.run_cycles.Given as goal

abbrev pub invariant-loop : goal.invariant-loop
invariant-loop g l = map place_of l.started.items ≡ map place_of l.initial.started.items
