use Rattle.std.proofs.Common.{sym, ap, subst}
use Rattle.std.proofs.lemmas.Result.{IfOk-weaker}
use Rattle.irt_base.specs.declared.plants.Plant.{Plant}
use Rattle.irt_net.proofs.Opening.{opened}
use Rattle.irt_net.specs.Parts.{AreJoined, AreOpened}
use Rattle.irt_net.specs.declared.parts.Parts.{Parts}
use Rattle.irt_route.specs.Routes.{IsRoutesOf}
use Rattle.net_site.specs.Site.{SiteState}
use Rattle.irt_net.proofs.parts.Parts.new.Goals as goal

pub join-requires : goal.join-requires
join-requires c =
    subst (λ (p : Plant). IsRoutesOf p c.args.routes.now) (sym (ap (λ (s : SiteState). s.plant) (c.in_ok-site.ensures {u = tt}))) c.requires.routes

pub returns : goal.returns
returns c =
    let places = c.plan_places-places.result in
    IfOk-weaker c.join.result (AreJoined c.in_ok-site.site c.in_ok-tables.tables c.args.routes.now places)
    (AreOpened c.args.plant.now c.args.bundles.now c.args.routes.now) (λ (parts : Parts) joined.
    opened c.args.plant.now c.args.bundles.now c.args.routes.now parts c.in_ok-site.site c.in_ok-tables.tables places c.requires.plan c.requires.accepted
    c.requires.routes c.plan_places-places.ensures.value (c.in_ok-site.ensures {u = tt}) (c.in_ok-tables.ensures {u = tt}) joined) c.join.ensures
