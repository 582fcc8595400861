use Rattle.std.proofs.Common.{ap}
use Rattle.smallvec.specs.SmallVec.{SmallVec}
use Rattle.irt_base.specs.declared.numbers.PortNo.{PortNo}
use Rattle.irt_route.specs.Routes.{RouteTables}
use Rattle.irt_route.proofs.TableLaws.{walk_none, walk_some}
use Rattle.irt_route.proofs.tables.Routes.walk.Goals as goal

pub returns-in-None : goal.returns-in-None
returns-in-None c =
    walk_none (SmallVec PortNo) (λ w. w.items) c.self.inside.walks c.args.self.now _ _ (ap (λ (r : RouteTables). r.walks) c.self.view_is)
    c.from.ensures c.in-None.ensures

pub returns-in-Some : goal.returns-in-Some
returns-in-Some c =
    walk_some (SmallVec PortNo) (λ w. w.items) c.self.inside.walks c.args.self.now _ _ _ _ (ap (λ (r : RouteTables). r.walks) c.self.view_is)
    c.from.ensures c.in-Some.ensures c.as_slice.ensures
