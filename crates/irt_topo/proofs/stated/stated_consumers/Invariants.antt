use Rattle.std.proofs.Common.{◌≡◌, map, take}
use Rattle.irt_topo.specs.Stated.{stated_device_id}
use Rattle.irt_topo.proofs.stated.stated_consumers.Given as goal

abbrev pub invariant-loop-name : goal.invariant-loop-name
invariant-loop-name l = l.consumers ≡ map (stated_device_id l.devices) (take l.name-index l.names)
