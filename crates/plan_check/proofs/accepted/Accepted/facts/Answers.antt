use Rattle.std.proofs.Common.{subst}
use Rattle.plan_rules.specs.Expected.{IsSafe}
use Rattle.plan_rules.specs.Places.{IsAccepted}
use Rattle.plan_check.specs.Settled.{Settled}
use Rattle.plan_check.proofs.accepted.Accepted.facts.Goals as goal

pub returns-clause-accepted : goal.returns-clause-accepted
returns-clause-accepted c = subst (λ (s : Settled). IsAccepted s.plant s.bundles) c.self.view_is c.self.invariant.accepted

pub returns-clause-safe : goal.returns-clause-safe
returns-clause-safe c =
    subst (λ (s : Settled). IsSafe s.plant s.bundles) c.self.view_is
    (c.accepted_plans_are_safe.ensures c.self.inside.plant c.self.inside.bundles c.self.invariant.plan c.self.invariant.accepted)
