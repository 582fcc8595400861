use Rattle.std.proofs.Common.{subst, ◌≡◌, Some}
use Rattle.irt_base.specs.declared.blocks.Entry.{Entry}
use Rattle.plan_rules.specs.Tree.{demand_of}
use Rattle.irt_window.proofs.InTree.{reached_test}
use Rattle.irt_window.proofs.Places.{one_entry}
use Rattle.irt_window.proofs.rules.is_reached.Goals as goal

pub returns : goal.returns
returns c =
    λ e s.
    let (f, t, asked) = c.requires.there in
    let net = c.args.net.now in
    let same = one_entry net.bundles.now c.args.device.0 c.args.place f e t s in
    reached_test net c.args.marks.now c.args.demand.now c.args.device.0 c.args.place e c.way_at.result c.is_some.result c.requires.net c.requires.marks
    c.requires.all s (subst (λ (x : Entry). demand_of net.plant.now x.frame.0 ≡ Some c.args.demand.now) same asked) c.way_at.ensures c.is_some.ensures
