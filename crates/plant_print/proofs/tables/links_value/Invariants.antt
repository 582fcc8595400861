use Rattle.std.proofs.Common.{◌≡◌, map, take}
use Rattle.toml.specs.View.{view}
use Rattle.plant_print.specs.Written.{link_data}
use Rattle.plant_print.proofs.tables.links_value.Given as goal

abbrev pub invariant-loop-link : goal.invariant-loop-link
invariant-loop-link l = map view l.values.items ≡ map (link_data l.plant.devices) (take l.link-index l.plant.links)
