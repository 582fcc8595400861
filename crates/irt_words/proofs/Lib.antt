mod GrammarLemmas
mod NumberLemmas
mod ReadingLemmas
mod StatedLemmas
