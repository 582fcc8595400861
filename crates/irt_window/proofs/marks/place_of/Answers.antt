use Rattle.irt_window.proofs.Reading.{read_none, read_some}
use Rattle.irt_window.proofs.marks.place_of.Goals as goal

pub returns-in-None : goal.returns-in-None
returns-in-None c = read_none c.args.row.now c.args.place c.in-None.ensures

pub returns-in-Some : goal.returns-in-Some
returns-in-Some c = read_some c.args.row.now c.args.place c.in-Some.way.now c.in-Some.ensures
