use Rattle.std.proofs.Common.{◌≡◌, ◌+◌, take}
use Rattle.iso_station.specs.Consumer.{count_of}
use Rattle.iso_station.proofs.consumer.have_words.Given as goal

abbrev pub invariant-loop-held : goal.invariant-loop-held
invariant-loop-held l = l.left + count_of (take l.held-index l.frames) ≡ l.count
