use Rattle.std.proofs.Common.{rules}
use Rattle.iso_rules.specs.Station.{input_count}
use Rattle.log_words.proofs.Each.{inputs_where}
use Rattle.log_words.proofs.whole.has_whole_inputs.Goals as goal

pub returns : goal.returns
returns c = λ setup device same.
    inputs_where _ c.args.input_words (input_count setup device) c.args.log.now.images c.args.log.now.turns same
    (search (rules, c.inputs_are_whole.ensures))
