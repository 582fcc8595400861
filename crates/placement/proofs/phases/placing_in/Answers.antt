use Rattle.placement.proofs.Offsets.{some_sending}
use Rattle.placement.proofs.phases.placing_in.Goals as goal

pub last_end-requires-clause-some : goal.last_end-requires-clause-some
last_end-requires-clause-some c = some_sending c.args.layout.now c.requires.layout c.requires.some
