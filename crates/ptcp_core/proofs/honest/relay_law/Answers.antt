use Rattle.ptcp_core.proofs.RelayLaw.{near_law, counted_law}
use Rattle.ptcp_core.proofs.honest.relay_law.Goals as goal

pub returns-clause-near : goal.returns-clause-near
returns-clause-near c = near_law

pub returns-clause-counted : goal.returns-clause-counted
returns-clause-counted c = counted_law
