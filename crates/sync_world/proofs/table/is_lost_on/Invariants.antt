use Rattle.std.proofs.Common.{◌≡◌, false, take}
use Rattle.sync_world.specs.Clocks.{is_lost_on}
use Rattle.sync_world.specs.Table.{passage_in}
use Rattle.sync_world.proofs.table.is_lost_on.Given as goal

abbrev pub invariant-loop-device : goal.invariant-loop-device
invariant-loop-device l = is_lost_on (passage_in l.table l.sync) (take l.device-index l.walk) ≡ false
