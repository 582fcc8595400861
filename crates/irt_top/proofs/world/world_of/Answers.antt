use Rattle.irt_top.proofs.RunLemmas.{follow_seed}
use Rattle.irt_top.proofs.world.world_of.Goals as goal

pub returns-in-Seed-clause-step : goal.returns-in-Seed-clause-step
returns-in-Seed-clause-step g c =
    follow_seed c.args.asked c.in-Seed.seed c.args.accepted.now.plant c.args.accepted.now.bundles c.args.cycles _ _ c.in-Seed.is c.world_by_seed.ensures.step
