use Rattle.std.proofs.Common.{arith, sym}
use Rattle.irt_window.proofs.NewWays.{behind_marked, stuck_behind}
use Rattle.irt_window.proofs.marking.way_from.Goals as goal

pub way_behind-requires-clause-ordered : goal.way_behind-requires-clause-ordered
way_behind-requires-clause-ordered c =
    let h = c.in-Some.ensures in
    (c.requires.marks.each c.in-Some.parent.device.0 c.in-Some.parent.place h.from c.in-Some-way_at.way h.placed (sym c.in-Some-way_at.ensures)).ordered

pub way_behind-requires-clause-small : goal.way_behind-requires-clause-small
way_behind-requires-clause-small c =
    let h = c.in-Some.ensures in
    omega
    (arith, (c.requires.marks.each c.in-Some.parent.device.0 c.in-Some.parent.place h.from c.in-Some-way_at.way h.placed (sym c.in-Some-way_at.ensures)).small)

pub returns-in-None-way_at : goal.returns-in-None-way_at
returns-in-None-way_at c =
    stuck_behind c.args.net.now c.args.marks.now.rows.items c.args.device.0 c.args.entry c.in-Some.parent c.requires.net c.in-Some.ensures
    c.requires.forwarded (sym c.in-None-way_at.ensures)

pub returns-in-Some-way_at : goal.returns-in-Some-way_at
returns-in-Some-way_at c =
    λ less fewer.
    let h = c.in-Some.ensures in
    behind_marked c.args.net.now c.args.device.0 c.requires.there.0 c.args.entry c.in-Some.parent c.in-Some-way_at.way c.way_behind.result
    c.args.marks.now.left less c.requires.net c.requires.there.1 h
    (c.requires.marks.each c.in-Some.parent.device.0 c.in-Some.parent.place h.from c.in-Some-way_at.way h.placed (sym c.in-Some-way_at.ensures))
    c.way_behind.ensures fewer c.requires.marks.few
