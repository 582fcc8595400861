use Rattle.plan_run.proofs.Words.{all_counted}
use Rattle.plan_run.proofs.size.entry_words.Goals as goal

pub returns-clause-value : goal.returns-clause-value
returns-clause-value c = all_counted c.loop-entry.words c.loop-entry.entry-index c.args.entries.now c.loop-entry.invariant.0 c.loop-entry-test.false
