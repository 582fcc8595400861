use Rattle.std.proofs.Common.{◌^◌, ap, arith}
use Rattle.std.proofs.lemmas.Int.{ints}
use Rattle.sync_world.specs.Table.{passage_in}
use Rattle.sync_world.specs.declared.lines.Passage.{Passage}
use Rattle.sync_world.proofs.Totals.{total_next, within_next}
use Rattle.sync_world.proofs.table.stay_total.Goals as goal

pub loop-device-preserved : goal.loop-device-preserved
loop-device-preserved c = record {
  sum = total_next (λ v. (passage_in c.args.table.now c.args.sync v).stay) c.args.walk.now c.loop-device.device-index _ _
      c.passage_in.result.stay _ c.loop-device-test.true c.loop-device.invariant.sum
      (ap (λ (p : Passage). p.stay) c.passage_in.ensures) (omega (arith, ints));
  small = within_next _ c.passage_in.result.stay _ (2 ^ 32) c.loop-device.device-index c.loop-device.invariant.small
      (record { early = omega (arith, ints); late = omega (arith, ints) }) (omega (arith, ints));
}
