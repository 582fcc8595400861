use Rattle.irt_window.specs.Plans.{setup_in}
use Rattle.plan_schedule.proofs.ScheduleLemmas.{provider_has}
use Rattle.plan_schedule.proofs.frames.provided.Goals as goal

pub unreachable-requires : goal.unreachable-requires
unreachable-requires c = provider_has (setup_in c.args.net.now) c.args.demand.now c.requires.trees c.requires.asked c.in-None.ensures
