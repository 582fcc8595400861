use Rattle.std.proofs.Common.{arith}
use Rattle.std.proofs.lemmas.Map.Text.{text_keys}
use Rattle.irt_io.proofs.sure_shelf.SureShelf.hold.Goals as goal

pub returns-clause-stores : goal.returns-clause-stores
returns-clause-stores c = record {
  others = λ q ne. grind (arith, text_keys);
  stored = grind (arith, text_keys);
}
