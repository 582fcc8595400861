use Rattle.std.proofs.Common.{◌≡◌, map, take}
use Rattle.iso_plant.specs.Made.{zero_image}
use Rattle.iso_plant.proofs.made.zero_images.Given as goal

abbrev pub invariant-loop-history : goal.invariant-loop-history
invariant-loop-history l = l.images.items ≡ map zero_image (take l.history-index l.histories)
