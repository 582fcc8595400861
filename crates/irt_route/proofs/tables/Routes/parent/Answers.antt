use Rattle.std.proofs.Common.{ap}
use Rattle.irt_route.specs.Routes.{RouteTables}
use Rattle.irt_route.proofs.TableLaws.{parent_none, parent_some}
use Rattle.irt_route.proofs.tables.Routes.parent.Goals as goal

pub returns-in-None : goal.returns-in-None
returns-in-None c =
    parent_none c.self.inside.trees c.args.self.now _ _ _ (ap (λ (r : RouteTables). r.parents) c.self.view_is) c.from.ensures c.in-None.ensures

pub returns-in-Some : goal.returns-in-Some
returns-in-Some c =
    parent_some c.self.inside.trees c.args.self.now _ _ _ _ _ (ap (λ (r : RouteTables). r.parents) c.self.view_is) c.from.ensures c.in-Some.ensures
    c.parent_at.ensures
