-- What `==` says of two rows.
use Rattle.std.proofs.Common.{◌≡◌, arith}
use Rattle.std.proofs.lemmas.Bool.Decides.{nat_tests, Decides-int_eq}
use Rattle.std.specs.Bool.{Decides}
use Rattle.cycle_rows.specs.contracts.rows.JournalRowPartialEq.TheImpl as row
use Rattle.cycle_rows.specs.declared.rows.JournalRow.{JournalRow}

pub row_Decides : (a b : JournalRow) → Decides (row.eq-value.it a b) (a ≡ b)
row_Decides a b = grind (arith, nat_tests, Decides-int_eq)
