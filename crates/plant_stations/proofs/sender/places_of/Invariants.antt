use Rattle.std.proofs.Common.{◌≡◌, map, take}
use Rattle.iso_rules.specs.Station.{provided_of}
use Rattle.plant_stations.specs.Whole.{place_in}
use Rattle.plant_stations.proofs.sender.places_of.Given as goal

abbrev pub invariant-loop-entry : goal.invariant-loop-entry
invariant-loop-entry l = l.places ≡ map (place_in l.demands) (provided_of (take l.entry-index l.entries))
