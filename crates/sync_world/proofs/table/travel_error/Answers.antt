use Rattle.std.proofs.Common.{◌∙◌, ap, arith}
use Rattle.std.proofs.lemmas.Int.{ints}
use Rattle.sync_world.specs.Clocks.{total}
use Rattle.sync_world.specs.Table.{passage_in}
use Rattle.sync_world.proofs.Totals.{sum_is}
use Rattle.sync_world.proofs.table.travel_error.Goals as goal

pub returns-clause-value : goal.returns-clause-value
returns-clause-value c =
    sum_is c.line_total.result c.stay_total.result _ _ _ (omega (arith, ints)) c.line_total.ensures.value
    (c.stay_total.ensures.value ∙ ap (total (λ v. (passage_in c.args.table.now c.args.sync v).stay)) c.later_of.ensures)
