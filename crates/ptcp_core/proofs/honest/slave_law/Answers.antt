use Rattle.ptcp_core.proofs.SlaveLaw.{slave_near, one_more}
use Rattle.ptcp_core.proofs.honest.slave_law.Goals as goal

pub returns-clause-near : goal.returns-clause-near
returns-clause-near c = slave_near

pub returns-clause-more : goal.returns-clause-more
returns-clause-more c = one_more
