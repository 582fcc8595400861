use Rattle.std.proofs.Common.{◌≡◌, map, take}
use Rattle.irt_topo.specs.Stated.{stated_demand}
use Rattle.irt_topo.proofs.stated.stated_demands.Given as goal

abbrev pub invariant-loop-raw : goal.invariant-loop-raw
invariant-loop-raw l = l.demands ≡ map (stated_demand l.devices) (take l.raw-index l.raws)
