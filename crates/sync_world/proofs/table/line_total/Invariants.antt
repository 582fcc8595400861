use Rattle.std.proofs.Common.{◌≡◌, ◌*◌, ◌^◌, drop}
use Rattle.std.specs.Prelude.{pos, ◌+ℤ◌}
use Rattle.plan_rules.specs.World.{IsWithinWindow}
use Rattle.sync_world.specs.Clocks.{line_error, total}
use Rattle.sync_world.specs.Table.{passage_in}
use Rattle.sync_world.proofs.table.line_total.Given as goal

abbrev pub invariant-loop-device : goal.invariant-loop-device
invariant-loop-device l = record {
  sum : l.sum +ℤ total (λ v. line_error (passage_in l.table l.sync v)) (drop l.device-index l.walk)
      ≡ total (λ v. line_error (passage_in l.table l.sync v)) l.walk;
  small : IsWithinWindow l.sum (pos (2 ^ 32 * l.device-index));
}
