use Rattle.fit_rules.proofs.Sliding.{moves, blocked, late}
use Rattle.fit_rules.proofs.law.offsets_jump.Goals as goal

pub returns-clause-moves : goal.returns-clause-moves
returns-clause-moves c = moves

pub returns-clause-blocked : goal.returns-clause-blocked
returns-clause-blocked c = blocked

pub returns-clause-late : goal.returns-clause-late
returns-clause-late c = late
