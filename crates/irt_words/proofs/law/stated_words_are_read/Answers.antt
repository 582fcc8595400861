use Rattle.irt_words.proofs.StatedLemmas.{stated_asked}
use Rattle.irt_words.proofs.law.stated_words_are_read.Goals as goal

pub returns : goal.returns
returns c = stated_asked
