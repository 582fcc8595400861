use Rattle.take_lists.proofs.TakeLists.{some_takes}
use Rattle.take_lists.proofs.law.some_takes_are_takes.Goals as goal

pub returns : goal.returns
returns c = some_takes
