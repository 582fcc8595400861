use Rattle.std.proofs.Common.{rules}
use Rattle.run_journal.proofs.Sorted.{sorted_end}
use Rattle.run_journal.proofs.journal.sort_items.Goals as goal

pub returns-clause-sorted : goal.returns-clause-sorted
returns-clause-sorted c =
    sorted_end c.args.rows.now.items c.deref_mut.result.now c.sort_rows.new.rows _ _ c.args.from c.args.rows.now.len c.deref_mut.ensures.value (search rules) c.requires
    c.sort_rows.ensures.same c.sort_rows.ensures.order
