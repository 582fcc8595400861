use Rattle.take_lists.proofs.Recorded.{legal_takes}
use Rattle.take_lists.proofs.law.cycle_takes_are_legal.Goals as goal

pub returns : goal.returns
returns c = legal_takes
