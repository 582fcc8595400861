use Rattle.std.proofs.Common.{◌≡◌, map, take}
use Rattle.irt_topo.specs.Stated.{stated_traffic}
use Rattle.irt_topo.proofs.stated.stated_traffics.Given as goal

abbrev pub invariant-loop-raw : goal.invariant-loop-raw
invariant-loop-raw l = l.traffic ≡ map (stated_traffic l.devices) (take l.raw-index l.raws)
