use Rattle.std.proofs.Common.{◌≡◌, map, take}
use Rattle.irt_topo.specs.Stated.{stated_link}
use Rattle.irt_topo.proofs.stated.stated_links.Given as goal

abbrev pub invariant-loop-raw : goal.invariant-loop-raw
invariant-loop-raw l = l.links ≡ map (stated_link l.devices) (take l.raw-index l.raws)
