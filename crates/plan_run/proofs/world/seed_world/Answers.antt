use Rattle.plan_run.proofs.Headers.{accepted_too}
use Rattle.plan_run.proofs.world.seed_world.Goals as goal

pub heard_world-requires-clause-accepted : goal.heard_world-requires-clause-accepted
heard_world-requires-clause-accepted c = accepted_too _ _ _ _ c.plant-in-Ptcp.ensures c.bundles-in-Ptcp.ensures c.facts.ensures.accepted
