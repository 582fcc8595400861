use Rattle.std.proofs.Common.{rules}
use Rattle.log_words.proofs.Each.{widths_where}
use Rattle.log_words.proofs.whole.has_whole_outputs.Goals as goal

pub returns-clause-widths : goal.returns-clause-widths
returns-clause-widths c = λ yes.
    widths_where c.args.output_words c.args.log.now.turns c.args.log.now.takes
    (search (rules, c.takes_are_whole.ensures.0 yes))
