use Rattle.std.proofs.Common.{◌≡◌, List}
use Rattle.iso_plant.specs.Replay.{setup_in}
use Rattle.iso_plant.specs.Step.{IsSamePlant}
use Rattle.iso_run.specs.InLockstep.{IsInLockstep}
use Rattle.iso_run.specs.Opened.{AreOpened}
use Rattle.iso_run.proofs.cycle.run_all.Given as goal

abbrev pub invariant-loop-k : goal.invariant-loop-k
invariant-loop-k g l = record {
  done : l.plant.done ≡ l._k;
  same : IsSamePlant l.initial.plant l.plant;
  lockstep : (states : List g.row.A.Denot) → AreOpened (setup_in l.initial.plant) states l.initial.apps l.initial.ends.ends.items →
      IsInLockstep g.A.IsoApp.reply g.A.IsoApp.next_state states l.plant l.apps l.ends.ends.items;
}
