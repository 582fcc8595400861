use Rattle.std.proofs.Common.{◌≡◌}
use Rattle.std.specs.Prelude.{Some, slice_get}
use Rattle.iso_run.specs.Apps.{with_offer}
use Rattle.iso_run.specs.Each.{AreEachBelow}
use Rattle.iso_run.specs.Ends.{offered_from}
use Rattle.iso_run.specs.declared.apps.LockstepApp.{LockstepApp}
use Rattle.iso_run.proofs.turns.offer_all.Given as goal

abbrev pub invariant-loop-index : goal.invariant-loop-index
invariant-loop-index g l = record {
  apps : AreEachBelow (λ n a b. b ≡ with_offer a) l.index l.fn.apps l.apps;
  ends : AreEachBelow (λ n e f. (a : LockstepApp g.row.A.Denot) → slice_get l.fn.apps n ≡ Some a → f ≡ offered_from a.output e) l.index l.fn.ends.ends.items l.ends.ends.items;
}
