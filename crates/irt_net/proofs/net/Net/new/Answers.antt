use Rattle.std.proofs.Common.{List, sym, subst₂}
use Rattle.irt_base.specs.declared.blocks.Bundle.{Bundle}
use Rattle.irt_base.specs.declared.plants.Plant.{Plant}
use Rattle.irt_net.specs.Parts.{AreOpened}
use Rattle.plan_rules.specs.Places.{IsAccepted}
use Rattle.irt_net.proofs.net.Net.new.Goals as goal

pub new-requires-clause-accepted : goal.new-requires-clause-accepted
new-requires-clause-accepted c = subst₂ IsAccepted (sym c.plant.ensures) (sym c.bundles.ensures) c.facts.ensures.accepted

pub returns : goal.returns
returns c =
    let opened = subst₂ (λ (p : Plant) (b : List Bundle). AreOpened p b c.args.routes.now c.in_ok-parts.parts) c.plant.ensures c.bundles.ensures
    (c.in_ok-parts.ensures {u = tt}) in
    record { plant = opened.same_plant; bundles = opened.same_bundles; walks = opened.same_walks; empty = opened.empty }
