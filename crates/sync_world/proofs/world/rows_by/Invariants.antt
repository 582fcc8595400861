use Rattle.std.proofs.Common.{◌≡◌}
use Rattle.sync_world.specs.World.{rows_by}
use Rattle.sync_world.proofs.world.rows_by.Given as goal

abbrev pub invariant-loop-cycle : goal.invariant-loop-cycle
invariant-loop-cycle l = l.rows ≡ rows_by l.window l.seed l.forwardings l.errors l.cycle
