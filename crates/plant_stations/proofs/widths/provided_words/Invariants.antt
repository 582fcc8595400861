use Rattle.std.proofs.Common.{◌≡◌, ◌*◌, ◌≤◌, take}
use Rattle.iso_rules.specs.Station.{provided_of, words_in}
use Rattle.plant_stations.proofs.widths.provided_words.Given as goal

abbrev pub invariant-loop-entry : goal.invariant-loop-entry
invariant-loop-entry l = record {
  words : l.words ≡ words_in (provided_of (take l.entry-index l.entries));
  few : l.words ≤ 8191 * l.entry-index;
}
