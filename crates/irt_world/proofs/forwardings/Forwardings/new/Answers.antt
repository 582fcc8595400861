use Rattle.std.proofs.Common.{rules, subst}
use Rattle.irt_world.specs.Forwardings.{AreInOrder}
use Rattle.irt_world.proofs.InOrder.{forwardings_in_order}
use Rattle.irt_world.proofs.forwardings.Forwardings.new.Goals as goal

pub invariant_of-result : goal.invariant_of-result
invariant_of-result c =
    let ordered = forwardings_in_order c.args.plant.now c.args.bundles.now c.requires in
    subst AreInOrder (search rules) ordered
