use Rattle.fit_rules.proofs.Known.{known}
use Rattle.fit_rules.proofs.OneFit.{one_fit, one_first_fit_of, no_overrun, one_overrun}
use Rattle.fit_rules.proofs.law.first_fit_is_one.Goals as goal

pub returns-clause-plans : goal.returns-clause-plans
returns-clause-plans c = λ plant routes plans others are. one_fit
    (known c.ways_are_one.ensures.mutual c.ways_are_one.ensures.parents c.ways_are_one.ensures.windows
    c.parents_of_trees.ensures.one c.parents_of_trees.ensures.start c.chains_of_trees.ensures.chain c.chains_of_trees.ensures.leaves) plant routes are plans others

pub returns-clause-bundles : goal.returns-clause-bundles
returns-clause-bundles c = λ plant routes bundles others are. one_first_fit_of
    (known c.ways_are_one.ensures.mutual c.ways_are_one.ensures.parents c.ways_are_one.ensures.windows
    c.parents_of_trees.ensures.one c.parents_of_trees.ensures.start c.chains_of_trees.ensures.chain c.chains_of_trees.ensures.leaves) plant routes are bundles others

pub returns-clause-excluded : goal.returns-clause-excluded
returns-clause-excluded c = λ plant routes plans frame are. no_overrun
    (known c.ways_are_one.ensures.mutual c.ways_are_one.ensures.parents c.ways_are_one.ensures.windows
    c.parents_of_trees.ensures.one c.parents_of_trees.ensures.start c.chains_of_trees.ensures.chain c.chains_of_trees.ensures.leaves) plant routes are plans frame

pub returns-clause-overruns : goal.returns-clause-overruns
returns-clause-overruns c = λ plant routes frame other are. one_overrun
    (known c.ways_are_one.ensures.mutual c.ways_are_one.ensures.parents c.ways_are_one.ensures.windows
    c.parents_of_trees.ensures.one c.parents_of_trees.ensures.start c.chains_of_trees.ensures.chain c.chains_of_trees.ensures.leaves) plant routes are frame other
