use Rattle.std.proofs.Common.{◌≡◌, ◌≤◌, ◌*◌, sum_by, take}
use Rattle.irt_net.specs.Places.{entry_places}
use Rattle.irt_net.proofs.places.block_places.Given as goal

abbrev pub invariant-loop-entry : goal.invariant-loop-entry
invariant-loop-entry l = (l.count ≡ sum_by entry_places (take l.entry-index l.entries)) × (l.count ≤ 8 * l.entry-index)
