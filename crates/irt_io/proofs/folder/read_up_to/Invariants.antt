use Rattle.std.proofs.Common.{◌≤◌, length}
use Rattle.irt_io.proofs.folder.read_up_to.Given as goal

abbrev pub invariant-loop : goal.invariant-loop
invariant-loop g l = length l.bytes.items ≤ l.limit
