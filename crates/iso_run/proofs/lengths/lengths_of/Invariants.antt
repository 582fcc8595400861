use Rattle.std.proofs.Common.{◌≡◌, map, take}
use Rattle.iso_rules.specs.Station.{data_words, provided_of}
use Rattle.iso_run.proofs.lengths.lengths_of.Given as goal

abbrev pub invariant-loop-entry : goal.invariant-loop-entry
invariant-loop-entry l = l.lengths ≡ map data_words (provided_of (take l.entry-index l.entries))
