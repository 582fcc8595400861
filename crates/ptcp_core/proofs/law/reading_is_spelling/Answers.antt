use Rattle.ptcp_core.proofs.MessageLaw.{msg_law}
use Rattle.ptcp_core.proofs.law.reading_is_spelling.Goals as goal

pub returns : goal.returns
returns c = msg_law
