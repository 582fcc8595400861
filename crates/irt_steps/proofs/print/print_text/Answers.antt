use Rattle.irt_steps.proofs.PrintLemmas.{printed_more}
use Rattle.irt_steps.proofs.print.print_text.Goals as goal

pub loop-at-preserved : goal.loop-at-preserved
loop-at-preserved g c = printed_more _ _ _ _ _ _ c.args.text.now c.loop-at.at c.in-Ok.count c.loop-at.invariant c.in-Ok.ensures.answer c.in-Ok.ensures.bound c.in-Ok.ensures.later
