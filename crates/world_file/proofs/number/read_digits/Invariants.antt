use Rattle.std.proofs.Common.{◌≡◌, ◌≤◌, length}
use Rattle.world_file.specs.Reading.{digits_read}
use Rattle.world_file.specs.declared.number.TheConstants.{FAR}
use Rattle.world_file.proofs.number.read_digits.Given as goal

abbrev pub invariant-loop-rest : goal.invariant-loop-rest
invariant-loop-rest l = (l.size ≤ FAR) × (digits_read l.size l.rest ≡ digits_read l.fn.first l.fn.bytes)

abbrev pub decreases-loop-rest : goal.decreases-loop-rest
decreases-loop-rest l = length l.rest
