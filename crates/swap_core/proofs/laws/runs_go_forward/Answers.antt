use Rattle.swap_core.proofs.Words.{held_forward, published_forward}
use Rattle.swap_core.proofs.laws.runs_go_forward.Goals as goal

pub returns-clause-held : goal.returns-clause-held
returns-clause-held c = held_forward

pub returns-clause-published : goal.returns-clause-published
returns-clause-published c = published_forward
