use Rattle.frame_ways.proofs.Lists.{read_none, read_some}
use Rattle.frame_ways.proofs.stops.entry_of.Goals as goal

pub returns-in-None : goal.returns-in-None
returns-in-None c = read_none c.args.base.now.entries c.args.device.0 (rw c.from.ensures at c.in-None.ensures)

pub returns-in-Some : goal.returns-in-Some
returns-in-Some c = read_some c.args.base.now.entries c.args.device.0 c.in-Some.entry.now (rw c.from.ensures at c.in-Some.ensures)
