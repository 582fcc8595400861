use Rattle.std.proofs.Common.{rules}
use Rattle.iso_run.specs.Apps.{IsTurned}
use Rattle.iso_run.proofs.Places.{each_unless_failed}
use Rattle.iso_run.proofs.turns.turn_all.Goals as goal

pub returns : goal.returns
returns g c =
    each_unless_failed (λ n a b. IsTurned g.A.IsoApp.reply g.A.IsoApp.next_state c.args.found a b) (λ a. a.failed) _ _ c.turn_each.ensures (search rules)
