use Rattle.std.proofs.Common.{◌≡◌, ◌++◌, map}
use Rattle.std.specs.Prelude.{Some}
use Rattle.std.specs.Vec.Iter.{into_iter_items}
use Rattle.iso_free.specs.Opened.{AreOpened}
use Rattle.iso_free.proofs.opening.open_all.Given as goal

abbrev pub invariant-loop-app : goal.invariant-loop-app
invariant-loop-app g l = record {
  apps : map (λ o. o.app) l.all.items ++ into_iter_items l.app-iterator ≡ l.fn.apps;
  opened : AreOpened (Some l.plant) l.all.items;
}
