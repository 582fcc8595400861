-- Words that are read one by one.
use Rattle.std.proofs.Common.{◌≡◌, ◌<◌, ◌-◌, ◌+◌, ℕ, suc, List, [], ◌∷◌, ◌++◌, Option, Some, sym, ◌∙◌, ap, arith}
use Rattle.record_reader.specs.Reading.{◌>>=◌, word_read, words_read}

words_first : (count word : ℕ) (words rest after : List ℕ) → word_read rest ≡ Some (word, after) → words_read (suc count) words rest ≡ words_read count (words ++ word ∷ []) after
words_first count word words rest after read = ap (λ (o : Option (ℕ × List ℕ)). o >>= λ x. words_read count (words ++ x.0 ∷ []) x.1) read

pub words_go_on : (count counter word : ℕ) (old new rest after : List ℕ) (all : Option (List ℕ × List ℕ)) → counter < count → word_read rest ≡ Some (word, after) →
    new ≡ old ++ word ∷ [] → words_read (count - counter) old rest ≡ all → words_read (count - (counter + 1)) new after ≡ all
words_go_on count counter word old new rest after all more read grown so_far =
    let next : suc (count - (counter + 1)) ≡ count - counter = omega arith in
    ap (λ ws. words_read (count - (counter + 1)) ws after) grown
    ∙ (sym (words_first (count - (counter + 1)) word old rest after read) ∙ (ap (λ n. words_read n old rest) next ∙ so_far))
