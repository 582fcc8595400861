use Rattle.std.proofs.Common.{◌≡◌, map, take}
use Rattle.toml.specs.View.{view}
use Rattle.plant_print.specs.Written.{traffic_data}
use Rattle.plant_print.proofs.tables.traffics_value.Given as goal

abbrev pub invariant-loop-entry : goal.invariant-loop-entry
invariant-loop-entry l = map view l.values.items ≡ map (traffic_data l.plant.devices) (take l.entry-index l.plant.traffic)
