use Rattle.std.proofs.Common.{rules}
use Rattle.iso_run.proofs.Begun.{begun_lockstep}
use Rattle.iso_run.proofs.cycle.run_all.Goals as goal

pub loop-k-init : goal.loop-k-init
loop-k-init g c = record {
  done = search rules;
  same = search rules;
  lockstep = λ states opened. begun_lockstep g.A.IsoApp.reply g.A.IsoApp.next_state states c.args.plant.now c.args.apps.now c.args.ends.now.ends.items c.requires.begun
      c.done-k.ensures.replay opened;
}
