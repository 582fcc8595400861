use Rattle.std.proofs.Common.{sym, subst, IsTrue}
use Rattle.irt_base.specs.declared.blocks.Entry.{Entry}
use Rattle.irt_window.specs.Plans.{setup_in}
use Rattle.irt_window.specs.Rules.{HasTree}
use Rattle.irt_window.proofs.InTree.{tree_test, place_test}
use Rattle.irt_window.proofs.Places.{one_entry}
use Rattle.irt_window.proofs.rules.has_tree.Goals as goal

pub returns-then-is_placed : goal.returns-then-is_placed
returns-then-is_placed c =
    λ e s.
    let net = c.args.net.now in
    let f = c.entry_of-entry.result in
    let same = one_entry net.bundles.now c.args.device.0 c.args.place f e c.entry_of-entry.ensures s in
    subst (λ (x : Entry). (IsTrue c.is_reached.result → HasTree (setup_in net) c.args.device.0 x) × (HasTree (setup_in net) c.args.device.0 x → IsTrue c.is_reached.result))
    same
    (tree_test (setup_in net) c.in-Some.demand.now c.args.device.0 f c.is_reached.result (sym c.in-Some.ensures) (c.is_placed.ensures.0 c.if-is_placed.true)
    (c.is_reached.ensures f c.entry_of-entry.ensures))

pub returns-else-is_placed : goal.returns-else-is_placed
returns-else-is_placed c =
    λ e s.
    let net = c.args.net.now in
    let f = c.entry_of-entry.result in
    let same = one_entry net.bundles.now c.args.device.0 c.args.place f e c.entry_of-entry.ensures s in
    subst (λ (x : Entry). (IsTrue c.is_placed.result → HasTree (setup_in net) c.args.device.0 x) × (HasTree (setup_in net) c.args.device.0 x → IsTrue c.is_placed.result))
    same
    (place_test (setup_in net) c.in-Some.demand.now c.args.device.0 f c.is_placed.result (sym c.in-Some.ensures) c.is_placed.ensures.1 c.if-is_placed.false)
