use Rattle.sync_world.proofs.Median.{known_none, median_known}
use Rattle.sync_world.proofs.lines.known_by.Goals as goal

pub returns-in-None : goal.returns-in-None
returns-in-None c = known_none c.args.line.now c.in-None.ensures

pub returns-in-Some : goal.returns-in-Some
returns-in-Some c = median_known c.honest_law.ensures.only c.args.line.now c.in-Some.median c.in-Some.ensures
