use Rattle.std.proofs.Common.{◌≡◌, map}
use Rattle.std.specs.Prelude.{slice_index}
use Rattle.std.specs.List.{range_with_len}
use Rattle.sync_world.specs.Clocks.{heard_errors}
use Rattle.sync_world.proofs.world.all_errors.Given as goal

abbrev pub invariant-loop-device : goal.invariant-loop-device
invariant-loop-device l = l.made ≡ map (λ device. heard_errors l.domain (slice_index l.timeouts device) device l.cycles) (range_with_len 0 l.device)
