use Rattle.std.proofs.Common.{◌≡◌, ◌-◌, []}
use Rattle.record_reader.specs.Reading.{words_read}
use Rattle.record_reader.proofs.words.read_words.Given as goal

-- what is still read goes on as all of it does
abbrev pub invariant-loop : goal.invariant-loop
invariant-loop l = words_read (l.count - l.counter) l.words l.rest ≡ words_read l.count [] l.fn.bytes
