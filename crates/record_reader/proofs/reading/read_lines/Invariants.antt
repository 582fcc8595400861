use Rattle.std.proofs.Common.{length}
use Rattle.record_reader.proofs.Reader.{IsReadTo}
use Rattle.record_reader.proofs.reading.read_lines.Given as goal

abbrev pub invariant-loop-rest : goal.invariant-loop-rest
invariant-loop-rest l = IsReadTo l.plant l.fn.text l.logs.items l.journal l.at l.rest l.line

abbrev pub decreases-loop-rest : goal.decreases-loop-rest
decreases-loop-rest l = length l.rest
