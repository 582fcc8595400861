use Rattle.log_words.proofs.Numbered.{published_where}
use Rattle.log_words.proofs.published.is_input.Goals as goal

pub returns : goal.returns
returns c = published_where _ _ _ _ _ _ c.place_behind.ensures c.image_at-later.ensures c.is_publication.ensures
