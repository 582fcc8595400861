use Rattle.swap_core.proofs.Words.{published_word, published_whole}
use Rattle.swap_core.proofs.laws.publications_are_stored.Goals as goal

pub returns-clause-word : goal.returns-clause-word
returns-clause-word c = published_word

pub returns-clause-whole : goal.returns-clause-whole
returns-clause-whole c = published_whole
