use Rattle.std.proofs.Common.{◌∙◌, sym, arith}
use Rattle.record_text.proofs.Cycles.{row_on, next_cursor}
use Rattle.record_text.proofs.cursor.end_of_cycle.Goals as goal

pub loop-at-preserved : goal.loop-at-preserved
loop-at-preserved c =
    let more = row_on c.args.rows.now c.loop-at.at c.args.k (sym c.is_row_of.ensures ∙ c.loop-at-test.true) c.loop-at.invariant.before in
    record { later = omega arith; within = more.1; before = more.0 }

pub returns-clause-end : goal.returns-clause-end
returns-clause-end c =
    next_cursor c.args.rows.now c.args.from c.loop-at.at c.args.k c.requires.order c.requires.begin c.loop-at.invariant.later
    c.loop-at.invariant.within c.loop-at.invariant.before (sym c.is_row_of.ensures ∙ c.loop-at-test.false)
