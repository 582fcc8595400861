use Rattle.fit_rules.proofs.Accepted.{plan_of_fit, accepted_fit}
use Rattle.fit_rules.proofs.Known.{known}
use Rattle.fit_rules.proofs.law.first_fit_is_accepted.Goals as goal

pub returns-clause-plan : goal.returns-clause-plan
returns-clause-plan c = plan_of_fit
    (known c.ways_are_one.ensures.mutual c.ways_are_one.ensures.parents c.ways_are_one.ensures.windows
    c.parents_of_trees.ensures.one c.parents_of_trees.ensures.start c.chains_of_trees.ensures.chain c.chains_of_trees.ensures.leaves)

pub returns-clause-accepted : goal.returns-clause-accepted
returns-clause-accepted c = accepted_fit
    (known c.ways_are_one.ensures.mutual c.ways_are_one.ensures.parents c.ways_are_one.ensures.windows
    c.parents_of_trees.ensures.one c.parents_of_trees.ensures.start c.chains_of_trees.ensures.chain c.chains_of_trees.ensures.leaves)

pub returns-clause-safe : goal.returns-clause-safe
returns-clause-safe c = λ plant routes bundles are fit.
    c.accepted_plans_are_safe.ensures plant bundles (returns-clause-plan c plant routes bundles are fit) (returns-clause-accepted c plant routes bundles are fit)
