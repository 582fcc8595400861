use Rattle.fit_rules.proofs.Known.{known}
use Rattle.fit_rules.proofs.Once.{same_ratio, same_end, one_in_phase, one_first_fit}
use Rattle.fit_rules.proofs.Placing.{routed_at}
use Rattle.fit_rules.specs.Order.{parents_of}
use Rattle.fit_rules.proofs.law.placements_are_one.Goals as goal

pub returns-clause-ratio : goal.returns-clause-ratio
returns-clause-ratio c = same_ratio

pub returns-clause-end : goal.returns-clause-end
returns-clause-end c = same_end

pub returns-clause-in_phase : goal.returns-clause-in_phase
returns-clause-in_phase c = λ plant routes index demand are at.
    one_in_phase plant (parents_of routes index) demand (routed_at (known c.ways_are_one.ensures.mutual c.ways_are_one.ensures.parents c.ways_are_one.ensures.windows
    c.parents_of_trees.ensures.one c.parents_of_trees.ensures.start c.chains_of_trees.ensures.chain c.chains_of_trees.ensures.leaves) plant routes index demand are at)

pub returns-clause-first : goal.returns-clause-first
returns-clause-first c = λ plant routes index demand are at.
    one_first_fit plant (parents_of routes index) demand (routed_at (known c.ways_are_one.ensures.mutual c.ways_are_one.ensures.parents c.ways_are_one.ensures.windows
    c.parents_of_trees.ensures.one c.parents_of_trees.ensures.start c.chains_of_trees.ensures.chain c.chains_of_trees.ensures.leaves) plant routes index demand are at)
