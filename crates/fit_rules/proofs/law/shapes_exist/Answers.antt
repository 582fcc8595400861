use Rattle.fit_rules.specs.Order.{parents_of}
use Rattle.fit_rules.proofs.Known.{known}
use Rattle.fit_rules.proofs.Placing.{routed_at, valid_at}
use Rattle.fit_rules.proofs.Shapes.{some_ratio, some_shape}
use Rattle.fit_rules.proofs.law.shapes_exist.Goals as goal

pub returns-clause-ratios : goal.returns-clause-ratios
returns-clause-ratios c = λ plant routes index demand are at. some_ratio plant demand (valid_at plant routes index demand are at).update

pub returns-clause-shapes : goal.returns-clause-shapes
returns-clause-shapes c = λ plant routes index demand are at. some_shape plant (parents_of routes index) demand (routed_at
    (known c.ways_are_one.ensures.mutual c.ways_are_one.ensures.parents c.ways_are_one.ensures.windows
    c.parents_of_trees.ensures.one c.parents_of_trees.ensures.start c.chains_of_trees.ensures.chain c.chains_of_trees.ensures.leaves) plant routes index demand are at)
