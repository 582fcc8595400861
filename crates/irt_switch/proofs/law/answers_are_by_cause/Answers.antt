use Rattle.irt_switch.proofs.Judged.{answered}
use Rattle.irt_switch.proofs.law.answers_are_by_cause.Goals as goal

pub returns : goal.returns
returns c = answered
