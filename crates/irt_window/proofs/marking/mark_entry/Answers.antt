use Rattle.std.proofs.Common.{sym, ◌∙◌}
use Rattle.irt_window.proofs.NewWays.{left_some, marks_set}
use Rattle.irt_window.proofs.Reading.{none_from_test}
use Rattle.irt_window.proofs.marking.mark_entry.Goals as goal

pub set_way-requires-clause-some_left : goal.set_way-requires-clause-some_left
set_way-requires-clause-some_left c =
    left_some c.args.net.now c.args.marks.now c.args.device.0 c.args.place c.requires.there.0 c.in-Some.way c.requires.marks c.requires.there.1
    (sym c.way_at.ensures ∙ none_from_test c.way_at.result c.if-is_some.ensures)

pub returns-in-Some-clause-marks : goal.returns-in-Some-clause-marks
returns-in-Some-clause-marks c =
    let (e, s) = c.requires.there in
    marks_set c.args.net.now c.args.marks.now c.set_way.new.marks c.args.device.0 c.args.place e c.in-Some.way c.requires.marks s
    (sym c.way_at.ensures ∙ none_from_test c.way_at.result c.if-is_some.ensures) c.set_way.ensures.rows c.set_way.ensures.left
    (c.in-Some.ensures e s c.set_way.new.marks.left c.set_way.ensures.left)
