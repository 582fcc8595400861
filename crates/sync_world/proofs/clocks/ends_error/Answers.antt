use Rattle.std.proofs.Common.{arith}
use Rattle.std.proofs.lemmas.Int.{ints}
use Rattle.sync_world.proofs.Totals.{sum_is}
use Rattle.sync_world.proofs.clocks.ends_error.Goals as goal

pub returns-clause-value : goal.returns-clause-value
returns-clause-value c =
    sum_is c.stamp_error.result c.stamp_error-2.result _ _ _ (omega (arith, ints)) c.stamp_error.ensures.value c.stamp_error-2.ensures.value
