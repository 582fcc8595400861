use Rattle.std.proofs.Common.{◌≡◌, ◌∙◌, arith, length, map}
use Rattle.iso_free.specs.Started.{place_of}
use Rattle.iso_free.proofs.Begin.{same_count}
use Rattle.iso_free.proofs.Legality.{if_ok}
use Rattle.iso_free.proofs.run.in_scope.Goals as goal

pub join_all-requires-clause-room : goal.join_all-requires-clause-room
join_all-requires-clause-room g c =
    let n : length c.run_cycles.new.started.items ≡ length c.args.jobs.items = same_count place_of (λ j. j.number) c.run_cycles.new.started.items c.args.jobs.items (c.run_cycles.ensures ∙ c.start_all-started.ensures) in
    let a = c.run_cycles.new.started.ok.0 in
    let b = c.args.jobs.ok.0 in
    let r = c.requires.done_room in omega arith

pub returns-clause-numbers : goal.returns-clause-numbers
returns-clause-numbers g c =
    if_ok c.join_all.result (λ done. map (λ j. j.number) done.items ≡ map place_of c.run_cycles.new.started.items) (λ done. map (λ j. j.number) done.items ≡ map (λ j. j.number) c.args.jobs.items)
    (λ done h. h ∙ (c.run_cycles.ensures ∙ c.start_all-started.ensures)) c.join_all.ensures.numbers
