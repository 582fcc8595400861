-- The cycles so far are written, and the cursor stands behind their rows.
use Rattle.std.proofs.Common.{◌≡◌, ◌++◌}
use Rattle.record_text.specs.Cursor.{IsCursor}
use Rattle.record_text.specs.Text.{cycles_text}
use Rattle.record_text.proofs.print.put_cycles.Given as goal

abbrev pub invariant-loop-k : goal.invariant-loop-k
invariant-loop-k l = record {
  text : l.out.items ≡ l.fn.out.items ++ cycles_text l.plant l.apps l.journal l.k;
  cursor : IsCursor l.journal l.k l.at;
}
