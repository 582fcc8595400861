use Rattle.std.proofs.Common.{◌≡◌, map, take}
use Rattle.toml.specs.View.{view}
use Rattle.plant_print.specs.Written.{port_data}
use Rattle.plant_print.proofs.tables.ports_value.Given as goal

abbrev pub invariant-loop-port : goal.invariant-loop-port
invariant-loop-port l = map view l.values.items ≡ map port_data (take l.port-index l.ports)
