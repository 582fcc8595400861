use Rattle.std.proofs.Common.{◌≡◌, map}
use Rattle.std.specs.List.{range_with_len}
use Rattle.sync_world.specs.Lines.{line_passages}
use Rattle.sync_world.proofs.lines.all_passages.Given as goal

abbrev pub invariant-loop-device : goal.invariant-loop-device
invariant-loop-device l = l.made ≡ map (line_passages l.domain l.syncs) (range_with_len 0 l.device)
