use Rattle.std.proofs.Common.{◌≡◌, map}
use Rattle.std.specs.List.{range_with_len}
use Rattle.sync_world.specs.Domain.{clock_line}
use Rattle.sync_world.proofs.domain.clock_lines.Given as goal

abbrev pub invariant-loop-device : goal.invariant-loop-device
invariant-loop-device l = l.lines ≡ map (clock_line l.plant l.tree) (range_with_len 0 l.device)
