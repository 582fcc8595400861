use Rattle.std.proofs.Common.{◌≡◌, ◌∙◌, ap, List}
use Rattle.std.specs.Prelude.{slice_get}
use Rattle.irt_base.specs.declared.blocks.Bundle.{Bundle}
use Rattle.irt_base.specs.declared.numbers.DevId.{DevId}
use Rattle.irt_base.specs.declared.plants.Plant.{Plant}
use Rattle.iso_rules.specs.Station.{input_count, output_count, output_lengths}
use Rattle.plan_rules.specs.Plan.{setup_of}
use Rattle.plan_rules.specs.Way.{Setup}
use Rattle.iso_run.proofs.OpenedApps.{opened_is}
use Rattle.iso_run.proofs.opening.open_app.Goals as goal

pub returns-clause-app : goal.returns-clause-app
returns-clause-app g c = λ x is.
    let plant = c.args.accepted.now.plant in
    let bundles = c.args.accepted.now.bundles in
    let same : setup_of c.args.plant.now.plant c.args.plant.now.bundles ≡ setup_of plant bundles =
    ap (λ (p : Plant). setup_of p c.args.plant.now.bundles) c.requires.plant ∙ ap (λ (b : List Bundle). setup_of plant b) c.requires.bundles in
    let there = ap (λ (p : Plant). slice_get p.apps c.args.number) c.requires.plant ∙ is in
    opened_is (setup_of plant bundles) x.device.0 c.args.app c.in_ok-app.app c.in_ok-lengths.lengths c.output_words-output_words.result c.input_words-input_words.result
    c.in_ok-app.ensures
    (c.in_ok-lengths.ensures ∙ ap (λ (d : DevId). output_lengths (setup_of plant bundles) d.0) (c.device_of.ensures x is))
    (c.output_words-output_words.ensures x there ∙ ap (λ (s : Setup). output_count s x.device.0) same)
    (c.input_words-input_words.ensures x there ∙ ap (λ (s : Setup). input_count s x.device.0) same)
