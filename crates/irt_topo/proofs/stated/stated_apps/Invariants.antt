use Rattle.std.proofs.Common.{◌≡◌, map, take}
use Rattle.irt_topo.specs.Stated.{stated_app}
use Rattle.irt_topo.proofs.stated.stated_apps.Given as goal

abbrev pub invariant-loop-raw : goal.invariant-loop-raw
invariant-loop-raw l = l.apps ≡ map (stated_app l.devices) (take l.raw-index l.raws)
