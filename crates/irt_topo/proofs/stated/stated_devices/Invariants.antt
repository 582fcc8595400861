use Rattle.std.proofs.Common.{◌≡◌, map, take}
use Rattle.irt_topo.specs.Stated.{stated_device}
use Rattle.irt_topo.proofs.stated.stated_devices.Given as goal

abbrev pub invariant-loop-raw : goal.invariant-loop-raw
invariant-loop-raw l = l.devices ≡ map stated_device (take l.raw-index l.raws)
