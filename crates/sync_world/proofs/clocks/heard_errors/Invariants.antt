use Rattle.std.proofs.Common.{◌≡◌, map}
use Rattle.std.specs.List.{range_with_len}
use Rattle.sync_world.specs.Clocks.{clock_at, heard_error}
use Rattle.sync_world.proofs.clocks.heard_errors.Given as goal

abbrev pub invariant-loop-cycle : goal.invariant-loop-cycle
invariant-loop-cycle l = record {
  errors : l.errors ≡ map (heard_error l.domain l.timeout l.device.0) (range_with_len 0 l.cycle);
  clock : l.clock ≡ clock_at l.domain l.device.0 l.cycle;
}
