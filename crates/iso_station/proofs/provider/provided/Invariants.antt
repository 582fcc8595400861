use Rattle.std.proofs.Common.{◌≡◌, take}
use Rattle.iso_rules.specs.Station.{provided_of}
use Rattle.iso_station.proofs.provider.provided.Given as goal

abbrev pub invariant-loop-entry : goal.invariant-loop-entry
invariant-loop-entry l = l.provided.items ≡ provided_of (take l.entry-index l.entries)
