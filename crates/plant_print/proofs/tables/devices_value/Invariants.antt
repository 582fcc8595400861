use Rattle.std.proofs.Common.{◌≡◌, map, take}
use Rattle.toml.specs.View.{view}
use Rattle.plant_print.specs.Written.{device_data}
use Rattle.plant_print.proofs.tables.devices_value.Given as goal

abbrev pub invariant-loop-device : goal.invariant-loop-device
invariant-loop-device l = map view l.values.items ≡ map device_data (take l.device-index l.plant.devices)
