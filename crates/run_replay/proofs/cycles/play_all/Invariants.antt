use Rattle.std.proofs.Common.{◌≡◌}
use Rattle.iso_plant.specs.Step.{IsSamePlant}
use Rattle.run_replay.specs.Cycle.{HasTaken}
use Rattle.run_replay.proofs.cycles.play_all.Given as goal

abbrev pub invariant-loop-k : goal.invariant-loop-k
invariant-loop-k l = record {
  done : l.plant.done ≡ l._k;
  same : IsSamePlant l.initial.plant l.plant;
  taken : HasTaken l.plant l.logs;
}
