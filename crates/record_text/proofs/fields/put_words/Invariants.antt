use Rattle.std.proofs.Common.{◌≡◌, ◌++◌, take}
use Rattle.record_text.specs.Text.{words_text}
use Rattle.record_text.proofs.fields.put_words.Given as goal

abbrev pub invariant-loop-word : goal.invariant-loop-word
invariant-loop-word l = l.out.items ≡ l.fn.out.items ++ words_text (take l.word-index l.words)
