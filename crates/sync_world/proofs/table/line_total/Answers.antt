use Rattle.std.proofs.Common.{◌^◌, ◌∙◌, ap, arith}
use Rattle.std.proofs.lemmas.Int.{ints}
use Rattle.sync_world.specs.Clocks.{line_error}
use Rattle.sync_world.specs.Table.{passage_in}
use Rattle.sync_world.proofs.Totals.{total_next, within_next}
use Rattle.sync_world.proofs.table.line_total.Goals as goal

pub loop-device-preserved : goal.loop-device-preserved
loop-device-preserved c = record {
  sum = total_next (λ v. line_error (passage_in c.args.table.now c.args.sync v)) c.args.walk.now c.loop-device.device-index _ _
      c.line_error-sum.result _ c.loop-device-test.true c.loop-device.invariant.sum
      (c.line_error-sum.ensures.value ∙ ap line_error c.passage_in.ensures) (omega (arith, ints));
  small = within_next _ c.line_error-sum.result _ (2 ^ 32) c.loop-device.device-index c.loop-device.invariant.small
      c.line_error-sum.ensures.small (omega (arith, ints));
}
