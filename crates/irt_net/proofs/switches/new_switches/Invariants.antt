use Rattle.std.proofs.Common.{◌≡◌, map, take}
use Rattle.irt_switch.specs.State.{new_switch}
use Rattle.irt_net.proofs.switches.new_switches.Given as goal

abbrev pub invariant-loop-bundle : goal.invariant-loop-bundle
invariant-loop-bundle l = l.switches.items ≡ map new_switch (take l.bundle-index l.bundles)
