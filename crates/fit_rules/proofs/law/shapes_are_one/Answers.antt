use Rattle.fit_rules.proofs.Alike.{clear_alike}
use Rattle.fit_rules.proofs.Known.{known}
use Rattle.fit_rules.proofs.Once.{fitted_alike, none_fitted}
use Rattle.fit_rules.proofs.Placing.{routed_at}
use Rattle.fit_rules.specs.Order.{parents_of}
use Rattle.fit_rules.proofs.law.shapes_are_one.Goals as goal

pub returns-clause-clear : goal.returns-clause-clear
returns-clause-clear c = clear_alike

pub returns-clause-fitted : goal.returns-clause-fitted
returns-clause-fitted c = λ plant routes index demand are at.
    fitted_alike plant (parents_of routes index) demand (routed_at (known c.ways_are_one.ensures.mutual c.ways_are_one.ensures.parents c.ways_are_one.ensures.windows
    c.parents_of_trees.ensures.one c.parents_of_trees.ensures.start c.chains_of_trees.ensures.chain c.chains_of_trees.ensures.leaves) plant routes index demand are at)

pub returns-clause-none : goal.returns-clause-none
returns-clause-none c = λ plant routes index demand are at.
    none_fitted plant (parents_of routes index) demand (routed_at (known c.ways_are_one.ensures.mutual c.ways_are_one.ensures.parents c.ways_are_one.ensures.windows
    c.parents_of_trees.ensures.one c.parents_of_trees.ensures.start c.chains_of_trees.ensures.chain c.chains_of_trees.ensures.leaves) plant routes index demand are at)
