use Rattle.plan_rules.specs.Plan.{setup_of}
use Rattle.run_judge.proofs.Wholeness.{inputs_tell, outputs_fail}
use Rattle.run_judge.proofs.kept.has_whole_words.Goals as goal

pub returns-then-has_whole_outputs-clause-exact : goal.returns-then-has_whole_outputs-clause-exact
returns-then-has_whole_outputs-clause-exact c =
    let setup = setup_of c.args.accepted.now.plant c.args.accepted.now.bundles in
    let device = c.args.device.0 in
    inputs_tell setup device c.args.log.now _
    ((c.has_whole_outputs.ensures.exact setup device c.output_words_of.ensures).0 c.if-has_whole_outputs.true)
    (c.has_whole_inputs.ensures setup device c.input_words_of.ensures)

pub returns-else-has_whole_outputs-clause-exact : goal.returns-else-has_whole_outputs-clause-exact
returns-else-has_whole_outputs-clause-exact c =
    let setup = setup_of c.args.accepted.now.plant c.args.accepted.now.bundles in
    let device = c.args.device.0 in
    let no = c.if-has_whole_outputs.false in
    outputs_fail setup device c.args.log.now _ (λ yes. absurd (cc))
    (c.has_whole_outputs.ensures.exact setup device c.output_words_of.ensures)
