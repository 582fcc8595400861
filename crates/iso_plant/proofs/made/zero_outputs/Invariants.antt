use Rattle.std.proofs.Common.{◌≡◌, map, take}
use Rattle.iso_plant.specs.Made.{zero_output}
use Rattle.iso_plant.proofs.made.zero_outputs.Given as goal

abbrev pub invariant-loop-bundle : goal.invariant-loop-bundle
invariant-loop-bundle l = l.outputs.items ≡ map zero_output (take l.bundle-index l.bundles)
