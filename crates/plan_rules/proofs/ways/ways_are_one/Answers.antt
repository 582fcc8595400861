use Rattle.plan_rules.proofs.Wires.{mutual_peers}
use Rattle.plan_rules.proofs.OneWay.{one_parent, one_window}
use Rattle.plan_rules.proofs.Starts.{one_start}
use Rattle.plan_rules.proofs.ways.ways_are_one.Goals as goal

pub returns-clause-mutual : goal.returns-clause-mutual
returns-clause-mutual c = mutual_peers

pub returns-clause-parents : goal.returns-clause-parents
returns-clause-parents c = one_parent

pub returns-clause-windows : goal.returns-clause-windows
returns-clause-windows c = one_window

pub returns-clause-starts : goal.returns-clause-starts
returns-clause-starts c = one_start
