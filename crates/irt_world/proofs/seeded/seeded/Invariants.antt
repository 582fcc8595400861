use Rattle.std.proofs.Common.{◌≡◌, map}
use Rattle.std.specs.List.{range_with_len}
use Rattle.irt_world.specs.Forwardings.{forwardings}
use Rattle.irt_world.specs.Seeded.{seeded_row}
use Rattle.irt_world.proofs.seeded.seeded.Given as goal

abbrev pub invariant-loop-cycle : goal.invariant-loop-cycle
invariant-loop-cycle l = l.rows ≡ map (seeded_row l.seed l.plant (forwardings l.plant l.fn.bundles)) (range_with_len 0 l.cycle)
