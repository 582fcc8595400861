use Rattle.std.proofs.Common.{◌≡◌}
use Rattle.std.specs.Prelude.{Some, slice_get}
use Rattle.iso_run.specs.Apps.{with_input}
use Rattle.iso_run.specs.Each.{AreEachBelow}
use Rattle.iso_run.specs.Ends.{EndView}
use Rattle.iso_run.proofs.turns.show_all.Given as goal

abbrev pub invariant-loop-index : goal.invariant-loop-index
invariant-loop-index g l =
    AreEachBelow (λ n a b. (e : EndView) → slice_get l.ends.ends.items n ≡ Some e → b ≡ with_input e.image a) l.index l.fn.apps l.apps
