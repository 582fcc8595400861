use Rattle.irt_world.proofs.InRange.{rows_in_range}
use Rattle.irt_world.proofs.law.fitting_worlds_are_in_range.Goals as goal

pub returns : goal.returns
returns c = rows_in_range
