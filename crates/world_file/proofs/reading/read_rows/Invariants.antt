use Rattle.world_file.proofs.WorldRead.{IsReadTo}
use Rattle.world_file.proofs.reading.read_rows.Given as goal

abbrev pub invariant-loop-cycle : goal.invariant-loop-cycle
invariant-loop-cycle l = IsReadTo l.plant l.fn.bundles l.fn.bytes l.rows l.rest l.cycle
