use Rattle.irt_words.proofs.NumberLemmas.{number_read}
use Rattle.irt_words.proofs.reading.decimal.Goals as goal

pub returns : goal.returns
returns c = number_read c.args.text.now c.read_decimal.result c.read_decimal.ensures.found c.read_decimal.ensures.only
