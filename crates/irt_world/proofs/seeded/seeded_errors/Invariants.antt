use Rattle.std.proofs.Common.{◌≡◌, map}
use Rattle.std.specs.List.{range_with_len}
use Rattle.irt_world.specs.Seeded.{seeded_error}
use Rattle.irt_world.proofs.seeded.seeded_errors.Given as goal

abbrev pub invariant-loop-device : goal.invariant-loop-device
invariant-loop-device l = l.errors ≡ map (seeded_error l.seed l.window l.cycle) (range_with_len 0 l.device)
