use Rattle.std.proofs.Common.{◌≡◌, ◌++◌, drop}
use Rattle.irt_world.specs.Forwardings.{forwardings_from, forwardings}
use Rattle.irt_world.proofs.forwardings.all_of.Given as goal

abbrev pub invariant-loop-number : goal.invariant-loop-number
invariant-loop-number l =
    l.made ++ forwardings_from l.number (drop l.number l.fn.plant.devices) (drop l.number l.fn.bundles)
    ≡ forwardings l.fn.plant l.fn.bundles
