use Rattle.irt_topo.proofs.Rounds.{first_shown}
use Rattle.irt_topo.proofs.rules.clocks.first_reached.Goals as goal

pub returns : goal.returns
returns c = first_shown
