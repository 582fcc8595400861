use Rattle.std.proofs.Common.{◌≡◌, map, take}
use Rattle.toml.specs.View.{view}
use Rattle.plant_print.specs.Written.{name_data}
use Rattle.plant_print.proofs.tables.names_value.Given as goal

abbrev pub invariant-loop-device : goal.invariant-loop-device
invariant-loop-device l = map view l.values.items ≡ map (name_data l.plant.devices) (take l.device-index l.devices)
