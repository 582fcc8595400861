use Rattle.std.proofs.Common.{rules, ◌≡◌, arith}
use Rattle.std.proofs.lemmas.Grind.{common_steps}
use Rattle.std.proofs.lemmas.List.Elements.{All-push}
use Rattle.free_plant.specs.Named.{cycles_of}
use Rattle.iso_free.proofs.threads.join_all.Goals as goal

pub loop-one-preserved : goal.loop-one-preserved
loop-one-preserved g c = record {
  numbers = grind (arith, common_steps);
  found = rw c.push_reserved.ensures.items (All-push (λ j. j.found ≡ cycles_of g.N.Naming.start) c.loop-one.jobs.items _ c.loop-one.invariant.found (search rules));
  room = grind (arith, common_steps);
}
