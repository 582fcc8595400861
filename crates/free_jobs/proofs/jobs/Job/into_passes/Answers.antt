use Rattle.std.proofs.Common.{subst}
use Rattle.free_jobs.specs.Jobs.{HasTurned, JobView}
use Rattle.free_jobs.proofs.jobs.Job.into_passes.Goals as goal

pub returns-clause-turned : goal.returns-clause-turned
returns-clause-turned g c = (
  c.self.inside.app,
  c.self.inside.last,
  subst (λ (v : JobView). HasTurned g.A.IsoApp.reply g.A.IsoApp.next_state g.N.Firsts.firsts g.N.Naming.start v.number v.found v.turns c.self.inside.app c.self.inside.last)
      c.self.view_is c.self.invariant.turned,
)
