use Rattle.window_sweep.proofs.PairLaws.{one_first_clash}
use Rattle.window_sweep.proofs.sweep.first_clash.Goals as goal

pub returns-clause-only : goal.returns-clause-only
returns-clause-only c = λ o h. one_first_clash c.args.window c.args.slots.now _ o c.first_clash_of_pairs.ensures h
