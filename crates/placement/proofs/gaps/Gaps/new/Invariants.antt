use Rattle.std.proofs.Common.{◌≡◌, length, [], List}
use Rattle.std.specs.Prelude.{All}
use Rattle.gap_table.specs.declared.slot.Slot.{Slot}
use Rattle.placement.proofs.gaps.Gaps.new.Given as goal

abbrev pub invariant-loop-table : goal.invariant-loop-table
invariant-loop-table l = record {
  count : length l.tables.items ≡ l._table;
  empty : All (λ (table : List Slot). table ≡ []) l.tables.items;
}
