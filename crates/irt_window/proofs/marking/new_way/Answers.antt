use Rattle.std.proofs.Common.{sym, subst}
use Rattle.irt_base.specs.declared.blocks.Entry.{Entry}
use Rattle.irt_window.specs.Marks.{IsMarked}
use Rattle.irt_window.proofs.NewWays.{own_marked}
use Rattle.irt_window.proofs.Places.{one_entry}
use Rattle.irt_window.proofs.marking.new_way.Goals as goal

pub returns-then-demand-device : goal.returns-then-demand-device
returns-then-demand-device c =
    λ e s less fewer.
    let net = c.args.net.now in
    let same = one_entry net.bundles.now c.args.device.0 c.args.place c.entry_of-entry.result e c.entry_of-entry.ensures s in
    subst (λ (x : Entry). IsMarked net less c.args.device.0 x c.own_way.result) same
    (own_marked net c.args.device c.args.place c.entry_of-entry.result c.own_way.result c.in-Some.demand.now c.args.marks.now.left less c.requires.net
    c.entry_of-entry.ensures (sym c.in-Some.ensures) c.if-demand-device.true c.own_way.ensures fewer c.requires.marks.few)
