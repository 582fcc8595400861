use Rattle.std.proofs.Common.{◌≡◌, vec_len}
use Rattle.iso_plant.specs.Room.{HaveWords}
use Rattle.iso_plant.proofs.history.zero_words.Given as goal

abbrev pub invariant-loop : goal.invariant-loop
invariant-loop l = record {
  words : HaveWords l.words l.lists.items;
  count : vec_len l.lists ≡ l.counter;
}
