use Rattle.std.proofs.Common.{rules, ◌≡◌, ◌∙◌, length, map}
use Rattle.std.proofs.lemmas.List.{length-map}
use Rattle.std.specs.Vec.Iter.{into_iter_items}
use Rattle.free_jobs.specs.Jobs.{JobView}
use Rattle.free_plant.specs.Named.{app_count}
use Rattle.iso_free.specs.Started.{place_of}
use Rattle.iso_free.proofs.Begin.{all_left, wire_at}
use Rattle.iso_free.proofs.threads.start_all.Goals as goal

pub start-requires-after_bounds : goal.start-requires-after_bounds
start-requires-after_bounds g c κs within =
    wire_at (app_count g.N.Naming.start) c.args.wires.now c.number-number.result c.in-Some.job.number c.index-wires-number.result c.requires.wires c.number-number.ensures.below
    c.index-wires-number.is c.number-number.ensures.number

pub returns : goal.returns
returns g c =
    let none : length (into_iter_items c.loop-job.job-iterator) ≡ 0 = search rules in
    all_left (map place_of c.loop-job.started.items) (map (λ (j : JobView). j.number) (into_iter_items c.loop-job.job-iterator)) _ c.loop-job.invariant.places
    (length-map (into_iter_items c.loop-job.job-iterator) (λ (j : JobView). j.number) ∙ none)
