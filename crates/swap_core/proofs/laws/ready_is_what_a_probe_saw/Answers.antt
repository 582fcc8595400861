use Rattle.swap_core.proofs.Words.{ready_is}
use Rattle.swap_core.proofs.laws.ready_is_what_a_probe_saw.Goals as goal

pub returns : goal.returns
returns c = ready_is
