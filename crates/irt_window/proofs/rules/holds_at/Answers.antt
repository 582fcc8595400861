use Rattle.irt_window.specs.Plans.{setup_in}
use Rattle.irt_window.proofs.InTree.{in_tree_test}
use Rattle.irt_window.proofs.rules.holds_at.Goals as goal

pub returns-in-Some : goal.returns-in-Some
returns-in-Some c =
    let (e, s, at, named) = c.in-Some.ensures in
    in_tree_test (setup_in c.args.net.now) c.args.device.0 c.args.frame.0 e c.has_tree.result at named (c.has_tree.ensures e s)
