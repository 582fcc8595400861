use Rattle.std.proofs.Common.{◌≡◌, ◌*◌, ◌≤◌, take}
use Rattle.iso_rules.specs.Station.{consumed_of, words_in}
use Rattle.plant_stations.proofs.widths.consumed_words.Given as goal

abbrev pub invariant-loop-entry : goal.invariant-loop-entry
invariant-loop-entry l = record {
  words : l.words ≡ words_in (consumed_of (take l.entry-index l.entries));
  few : l.words ≤ 8191 * l.entry-index;
}
